use Rattle.std.proofs.Common.{◌≡◌, ◌<◌, ℕ, false, length, get_or, sym, ◌∙◌, arith}
use Rattle.std.proofs.lemmas.List.{length-set}
use Rattle.std.proofs.lemmas.List.Elements.{Contains-get_or}
use Rattle.differential_kernel.proofs.Begun.{read_within}
use Rattle.differential_kernel.proofs.Notes.{marked_put, same_put, same_still}
use Rattle.differential_kernel.proofs.difference.store.Goals as goal

pub mark_all-requires : goal.mark_all-requires
mark_all-requires g c = λ k d lt.
    omega (
      arith,
      c.requires.nets.marks,
      read_within c.args.fanout.now c.args.net.0 (get_or c.readers.result.now k d) ((c.readers.ensures (get_or c.readers.result.now k d)).0 (Contains-get_or c.readers.result.now k d lt)),
    )

pub returns-then-not-is_none-clause-noted : goal.returns-then-not-is_none-clause-noted
returns-then-not-is_none-clause-noted g c =
    let lanes = g.W.Word.lanes in
    let bit = g.W.Word.lane_bit in
    let nets = c.args.nets.now in
    let size = length-set nets.words.items c.args.net.0 c.args.word in
    record {
      nets = record {
        words = size ∙ c.requires.nets.words;
        touched = record {
          bound = c.put.ensures.bound ∙ c.requires.nets.touched.bound ∙ sym size;
          same = same_put lanes bit nets.touched c.put.new.self nets.words.items c.args.net.0 c.args.word c.put.ensures.has c.requires.nets.touched.same;
        };
        marks = c.mark_all.ensures.bound ∙ c.requires.nets.marks;
      };
      kept = c.mark_all.ensures.kept;
      marked = λ from marked.
          marked_put lanes bit c.args.fanout.now from nets.words.items nets.marks c.mark_all.new.marks c.args.net.0 c.args.word
          c.mark_all.ensures.kept (λ p reads. c.mark_all.ensures.marked p ((c.readers.ensures p).1 reads)) marked;
    }

pub returns-else-not-is_none-clause-noted : goal.returns-else-not-is_none-clause-noted
returns-else-not-is_none-clause-noted g c =
    let lanes = g.W.Word.lanes in
    let bit = g.W.Word.lane_bit in
    let nets = c.args.nets.now in
    let n = c.args.net.0 in
    let size = length-set nets.words.items n c.args.word in
    let within : n < length nets.words.items = omega (arith, c.requires.net, c.requires.nets.words) in
    let none_in : (k : ℕ) → k < lanes → bit c.args.word k ≡ false = c.is_none.ensures.none c.if-not-is_none.false in
    record {
      nets = record {
        words = size ∙ c.requires.nets.words;
        touched = record {
          bound = c.requires.nets.touched.bound ∙ sym size;
          same = λ m none. same_still lanes bit nets.words.items n m c.args.word within none_in (c.requires.nets.touched.same m none);
        };
        marks = c.requires.nets.marks;
      };
      kept = λ p there. there;
      marked = λ from marked place m le reads none. same_still lanes bit nets.words.items n m c.args.word within none_in (marked place m le reads none);
    }
