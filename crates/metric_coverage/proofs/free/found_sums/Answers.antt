use Rattle.std.proofs.Common.{false, ◌∙◌}
use Rattle.fmeda_report.specs.Tallies.{planes_in_order}
use Rattle.metric_coverage.proofs.free.found_sums.Goals as goal

pub returns-clause-sums : goal.returns-clause-sums
returns-clause-sums c = c.sums_at.ensures.sums ∙ (c.free_bounds_hold.ensures.found c.args.plan.now (λ i. false) (planes_in_order c.args.planes.now)).sums
