use Rattle.std.proofs.Common.{◌∙◌}
use Rattle.reading_planes.specs.declared.reading.Reading.TheVariants.{Without}
use Rattle.reading_planes.proofs.Lists.{none_below, pushed_below}
use Rattle.reading_planes.proofs.reading.push_without.Goals as goal

pub loop-a-init : goal.loop-a-init
loop-a-init c = none_below (λ a. Without a) c.args.list.now.items

pub loop-a-preserved : goal.loop-a-preserved
loop-a-preserved c = c.in_ok-push.ensures.items ∙ pushed_below (λ a. Without a) c.args.list.now.items c.loop-a.list.items c.loop-a.a c.loop-a.invariant
