use Rattle.std.proofs.Common.{◌≡◌}
use Rattle.fmeda_report.specs.Tallies.{planes_in_order}
use Rattle.fmeda_report.proofs.Summing.{sums_below}
use Rattle.fmeda_report.proofs.planes.all_sums.Given as goal

abbrev pub invariant-loop-batch : goal.invariant-loop-batch
invariant-loop-batch l = l.sums ≡ sums_below l.plan (planes_in_order l.planes) l.batch
