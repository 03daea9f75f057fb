use Rattle.std.proofs.Common.{◌≡◌, ◌∙◌, ◌+◌, ◌++◌, ◌∷◌, [], false, get_or, arith}
use Rattle.std.specs.Prelude.{filter}
use Rattle.fm_base.specs.Lists.{below}
use Rattle.std.proofs.lemmas.Grind.{common_steps}
use Rattle.wave_dump.proofs.Showing.{filter_none, marked_push, marked_skip}
use Rattle.wave_dump.proofs.shown.marked.Goals as goal
use Rattle.wave_dump.proofs.shown.marked.Goals.{then-is_marked+in_ok-push, else-is_marked}

pub loop-n-init : goal.loop-n-init
loop-n-init c = c.new-nets.ensures.items ∙ filter_none (λ n. get_or c.args.marks.now n false)

pub loop-n-preserved : goal.loop-n-preserved
loop-n-preserved c =
    let marks = c.args.marks.now in
    let n = c.loop-n.n in
    let next = c.if-is_marked.nets.items in
    elim c.if-is_marked.branch as (λ _. next ≡ filter (λ k. get_or marks k false) (below (n + 1))) [
      | then-is_marked+in_ok-push w ↦
          (let more : next ≡ c.loop-n.nets.items ++ n ∷ [] = grind (arith, common_steps) in
          marked_push marks n c.loop-n.nets.items next c.loop-n.invariant w.if-is_marked.true more)
      | else-is_marked w ↦
          (let same : next ≡ c.loop-n.nets.items = grind (arith, common_steps) in same ∙ marked_skip marks n c.loop-n.nets.items c.loop-n.invariant w.if-is_marked.false)
    ]
