use Rattle.std.proofs.Common.{◌≡◌}
use Rattle.campaign_plan.specs.Batches.{total}
use Rattle.metric_bounds.proofs.Rowing.{first_entries}
use Rattle.metric_bounds.proofs.sums.kept_sums.Given as goal

abbrev pub invariant-loop-row : goal.invariant-loop-row
invariant-loop-row l = l.sums ≡ total l.plan (first_entries l.rows l.row-index)
