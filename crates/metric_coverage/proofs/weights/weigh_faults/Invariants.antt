use Rattle.std.proofs.Common.{◌≡◌, ◌<◌, ℕ, length}
use Rattle.campaign_plan.specs.Batches.{class_of_fault}
use Rattle.fmeda_report.specs.Tallies.{planes_in_order}
use Rattle.metric_coverage.specs.Freed.{evidence_at}
use Rattle.metric_coverage.specs.Weights.{part_at, part_below}
use Rattle.metric_coverage.proofs.weights.weigh_faults.Given as goal

-- the faults so far are added
abbrev pub invariant-loop-i : goal.invariant-loop-i
invariant-loop-i l =
    (k : ℕ) → k < length l.parts → part_at l.parts k ≡ part_below l.plan (evidence_at l.evidence) (class_of_fault l.plan (planes_in_order l.planes)) k l.i
