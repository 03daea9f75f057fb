use Rattle.std.proofs.Common.{◌≡◌, ◌<◌, ◌≤◌, ℕ}
use Rattle.metric_sums.specs.Totals.{plus}
use Rattle.campaign_plan.specs.Batches.{own_sums}
use Rattle.classifier.specs.Planes.{outcome_at}
use Rattle.metric_breakdown.specs.Text.{sums_at}
use Rattle.metric_breakdown.proofs.sums.add_batch.Given as goal

-- the readings so far have the batch, and the others are as they were
abbrev pub invariant-loop-r : goal.invariant-loop-r
invariant-loop-r l = record {
  done : (m : ℕ) → m < l.r → sums_at l.sums m ≡ plus (sums_at l.initial.sums m) (own_sums l.plan l.batch (outcome_at l.found m));
  left : (m : ℕ) → l.r ≤ m → sums_at l.sums m ≡ sums_at l.initial.sums m;
}
