use Rattle.std.proofs.Common.{◌≡◌}
use Rattle.campaign_plan.specs.Batches.{class_of_fault}
use Rattle.fmeda_report.specs.Tallies.{planes_in_order}
use Rattle.metric_coverage.specs.Amounts.{amount_below}
use Rattle.metric_coverage.specs.Freed.{evidence_at, free_by}
use Rattle.metric_coverage.proofs.amount.free_amount.Given as goal

-- the faults so far are counted
abbrev pub invariant-loop-i : goal.invariant-loop-i
invariant-loop-i l = l.amount ≡ amount_below l.plan (free_by l.free (evidence_at l.evidence) (class_of_fault l.plan (planes_in_order l.planes))) l.i
