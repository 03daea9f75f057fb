use Rattle.std.proofs.Common.{◌∙◌, List, [], ◌∷◌, ◌++◌, ap, append_assoc}
use Rattle.reading_planes.specs.Readings.{pair_of}
use Rattle.reading_planes.specs.declared.reading.Reading.{Reading}
use Rattle.reading_planes.specs.declared.reading.Reading.TheVariants.{BareGoal, Goal}
use Rattle.reading_planes.proofs.Lists.{none_flat, pushed_flat}
use Rattle.reading_planes.proofs.reading.push_pairs.Goals as goal

pub loop-g-init : goal.loop-g-init
loop-g-init c = none_flat pair_of c.args.list.now.items

pub loop-g-preserved : goal.loop-g-preserved
loop-g-preserved c =
    let g = c.loop-g.g in
    let so_far = c.loop-g.list.items in
    c.in_ok-push-2.ensures.items ∙ ap (λ (items : List Reading). items ++ BareGoal g ∷ []) c.in_ok-push.ensures.items
    ∙ append_assoc so_far (Goal g ∷ []) (BareGoal g ∷ []) ∙ pushed_flat pair_of c.args.list.now.items so_far g c.loop-g.invariant
