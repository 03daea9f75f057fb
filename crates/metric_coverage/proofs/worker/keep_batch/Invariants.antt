use Rattle.std.proofs.Common.{◌≡◌, ◌<◌, ℕ, length}
use Rattle.campaign_plan.specs.Batches.{true_planes}
use Rattle.classifier.specs.Planes.{outcome_at}
use Rattle.reading_planes.specs.Folded.{reading_at}
use Rattle.reading_planes.specs.Readings.{plan_by}
use Rattle.metric_coverage.proofs.worker.keep_batch.Given as goal

-- the planes by the readings so far are kept
abbrev pub invariant-loop-r : goal.invariant-loop-r
invariant-loop-r l = record {
  count : length l.kept ≡ length l.readings;
  each : (m : ℕ) → m < l.r → outcome_at l.kept m ≡ true_planes (plan_by l.plan (reading_at l.readings m)) l.batch;
}
