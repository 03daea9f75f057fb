use Rattle.std.proofs.Common.{◌≡◌, ◌++◌, ◌∷◌, [], ◌+◌, List, length, rules, ◌∙◌, ap}
use Rattle.std.proofs.lemmas.List.{length_push}
use Rattle.circuit.specs.Value.{bit_at}
use Rattle.lane_words.specs.Gates.{plane}
use Rattle.differential_kernel.proofs.Notes.{same_push}
use Rattle.differential_kernel.proofs.difference.same_words.Goals as goal

pub loop-n-preserved : goal.loop-n-preserved
loop-n-preserved g c =
    let e : c.push.new.v.items ≡ c.loop-n.words.items ++ c.all.result ∷ [] = search rules in
    record {
      count = ap (λ (ws : List g.row.W.Denot). length ws) e ∙ length_push c.loop-n.words.items c.all.result ∙ ap (λ n. n + 1) c.loop-n.invariant.count;
      same = λ n k lt.
          ap (λ ws. bit_at (plane g.W.Word.lane_bit k ws) n) e
          ∙ same_push g.W.Word.lane_bit k c.loop-n.words.items c.all.result n (c.all.ensures k lt) (c.loop-n.invariant.same n k lt);
    }
