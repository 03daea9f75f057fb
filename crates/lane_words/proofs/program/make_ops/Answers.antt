use Rattle.std.proofs.Common.{◌≡◌, ◌++◌, ◌∷◌, [], ◌+◌, rules, ◌∙◌, ap}
use Rattle.std.proofs.lemmas.List.{length_push}
use Rattle.lane_words.specs.Gates.{IsOp}
use Rattle.lane_words.proofs.Pushes.{pushed_each}
use Rattle.lane_words.proofs.program.make_ops.Goals as goal

pub loop-op-preserved : goal.loop-op-preserved
loop-op-preserved g c =
    let e : c.push.new.v.items ≡ c.loop-op.masks.items ++ c.masks_of.result ∷ [] = search rules in
    rw e (
      length_push c.loop-op.masks.items c.masks_of.result ∙ ap (λ n. n + 1) c.loop-op.invariant.0,
      pushed_each (IsOp g.W.Word.lanes g.W.Word.lane_bit) c.loop-op.masks.items c.masks_of.result c.loop-op.op c.loop-op.invariant.0 c.loop-op.invariant.1 c.masks_of.ensures,
    )
