use Rattle.std.proofs.Common.{◌∙◌}
use Rattle.reading_planes.specs.declared.reading.Reading.TheVariants.{Goal}
use Rattle.reading_planes.proofs.Lists.{none_below, pushed_below}
use Rattle.reading_planes.proofs.reading.push_goals.Goals as goal

pub loop-g-init : goal.loop-g-init
loop-g-init c = none_below (λ g. Goal g) c.args.list.now.items

pub loop-g-preserved : goal.loop-g-preserved
loop-g-preserved c = c.in_ok-push.ensures.items ∙ pushed_below (λ g. Goal g) c.args.list.now.items c.loop-g.list.items c.loop-g.g c.loop-g.invariant
