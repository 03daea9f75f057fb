use Rattle.metric_bounds.proofs.Narrowing.{exact, narrows}
use Rattle.metric_bounds.proofs.law.bounds_narrow.Goals as goal

pub returns-clause-narrow : goal.returns-clause-narrow
returns-clause-narrow c = narrows

pub returns-clause-exact : goal.returns-clause-exact
returns-clause-exact c = exact
