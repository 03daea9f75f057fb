use Rattle.std.proofs.Common.{◌≡◌}
use Rattle.fmeda_report.proofs.Summing.{sums_below}
use Rattle.metric_bounds.proofs.Ending.{planes_by}
use Rattle.metric_bounds.proofs.sums.sums_at.Given as goal

abbrev pub invariant-loop-batch : goal.invariant-loop-batch
invariant-loop-batch l = l.sums ≡ sums_below l.plan (planes_by l.plan l.table l.end) l.batch
