use Rattle.metric_coverage.proofs.Upsetting.{below_last}
use Rattle.metric_coverage.proofs.cycles.places.Goals as goal

pub returns-in-Some : goal.returns-in-Some
returns-in-Some c = below_last c.args.cycles.now c.in-Some.last.now c.requires c.in-Some.ensures.value
