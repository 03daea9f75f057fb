use Rattle.std.proofs.Common.{◌≡◌}
use Rattle.fm_base.specs.Lists.{below}
use Rattle.metric_sums.specs.Totals.{sums_by}
use Rattle.campaign_plan.specs.Batches.{class_of_fault}
use Rattle.campaign_plan.specs.Laws.{fault_share}
use Rattle.fmeda_report.specs.Tallies.{planes_in_order}
use Rattle.coverage.specs.Free.{freed}
use Rattle.metric_coverage.specs.Freed.{evidence_at, free_by}
use Rattle.metric_coverage.proofs.free.sums_at.Given as goal

-- the sums over the faults so far
abbrev pub invariant-loop-i : goal.invariant-loop-i
invariant-loop-i l =
    let class = class_of_fault l.plan (planes_in_order l.planes) in
    l.sums ≡ sums_by (fault_share l.plan (freed l.plan (free_by l.free (evidence_at l.evidence) class) class l.end)) (below l.i)
