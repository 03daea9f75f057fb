use Rattle.std.proofs.Common.{◌≡◌, ◌&&◌, ℕ, List, length, ap, sym, subst, ◌∙◌, arith}
use Rattle.std.proofs.lemmas.Grind.{common_steps}
use Rattle.std.specs.Vec.{with_items}
use Rattle.circuit.specs.Value.{bit_at}
use Rattle.lane_words.specs.Bits.{either}
use Rattle.lane_words.specs.Gates.{plane}
use Rattle.place_set.specs.Places.{Places, has, value_in}
use Rattle.differential_kernel.specs.Differences.{DifferOnlyIn}
use Rattle.differential_kernel.specs.Shown.{told_in}
use Rattle.differential_kernel.proofs.Notes.{only_in_more}
use Rattle.differential_kernel.proofs.cycle.tell_by_values.Goals as goal

pub returns-clause-told : goal.returns-clause-told
returns-clause-told g c = λ k n within.
    let bit = g.W.Word.lane_bit in
    let nets = c.args.nets.now in
    let row = c.args.row.now in
    let rows : (with_items nets.row c.keep_row.new.kept).items ≡ c.keep_row.new.kept = grind (arith, common_steps) in
    let kept : value_in (with_items nets.row c.keep_row.new.kept).items n ≡ value_in row n =
    ap (λ (r : List ℕ). value_in r n) rows
    ∙ c.keep_row.ensures n (omega (arith, within, ap (λ (r : List ℕ). length r) c.deref_mut.ensures.value)) in
    ap (λ (s : Places). told_in bit k (with_items nets.row c.keep_row.new.kept).items s nets.values.items n) c.copy_from.ensures
    ∙ ap (λ b. has c.args.cone.now.nets n && either b (bit_at (plane bit k nets.values.items) n)) kept

pub returns-clause-nets : goal.returns-clause-nets
returns-clause-nets g c = λ o grows are.
    let nets = c.args.nets.now in
    let cone = c.args.cone.now in
    let rows : (with_items nets.row c.keep_row.new.kept).items ≡ c.keep_row.new.kept = grind (arith, common_steps) in
    record {
      own = record {
        words = are.own.words;
        touched = subst (λ (s : Places). DifferOnlyIn g.W.Word.lanes g.W.Word.lane_bit s nets.own.words.items) (sym c.copy_from.ensures)
            (only_in_more g.W.Word.lanes g.W.Word.lane_bit nets.own.touched cone.nets nets.own.words.items grows (c.requires ∙ are.own.touched.bound) are.own.touched);
        marks = are.own.marks;
      };
      values = are.values;
      row = ap (λ (r : List ℕ). length r) rows ∙ c.keep_row.auto.kept ∙ ap (λ (r : List ℕ). length r) c.deref_mut.ensures.value ∙ are.row;
    }
