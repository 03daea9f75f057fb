use Rattle.metric_bounds.proofs.Bounding.{bounds}
use Rattle.metric_bounds.proofs.law.bounds_hold.Goals as goal

pub returns : goal.returns
returns c = bounds
