use Rattle.std.proofs.Common.{◌≡◌, ◌<◌, ℕ, length}
use Rattle.campaign_plan.specs.Batches.{true_planes}
use Rattle.classifier.specs.Planes.{outcome_at}
use Rattle.reading_planes.specs.Folded.{reading_at}
use Rattle.reading_planes.specs.Readings.{plan_by}
use Rattle.metric_coverage.proofs.planes.table_of.Given as goal

-- the planes of the batches so far
abbrev pub invariant-loop-batch : goal.invariant-loop-batch
invariant-loop-batch l = record {
  count : length l.planes.items ≡ l.batch;
  each : (b : ℕ) → b < l.batch → outcome_at l.planes.items b ≡ true_planes (plan_by l.plan (reading_at l.readings l.reading)) b;
}
