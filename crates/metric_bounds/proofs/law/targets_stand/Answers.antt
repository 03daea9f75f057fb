use Rattle.metric_bounds.proofs.Targeting.{limits, targets}
use Rattle.metric_bounds.proofs.law.targets_stand.Goals as goal

pub returns-clause-percentages : goal.returns-clause-percentages
returns-clause-percentages c = targets

pub returns-clause-limit : goal.returns-clause-limit
returns-clause-limit c = limits
