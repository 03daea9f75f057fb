-- The planes of all batches by each reading of a plan.
use Rattle.std.specs.Prelude.{◌≡◌, ◌<◌, ℕ, List, [], length, slice_index_or}
use Rattle.campaign_plan.specs.declared.Outcome.{Outcome}
use Rattle.campaign_plan.specs.Analysis.{Analysis, batch_count}
use Rattle.campaign_plan.specs.Batches.{true_planes}
use Rattle.fmeda_report.specs.Tallies.{planes_in_order}
use Rattle.reading_planes.specs.Folded.{reading_at}
use Rattle.reading_planes.specs.Readings.{plan_by}
use Rattle.reading_planes.specs.declared.reading.Reading.{Reading}

-- those of a reading, by its number
abbrev pub table_at : List (List Outcome) → ℕ → List Outcome
table_at tables r = slice_index_or tables r []

-- a place for each batch, and in it the planes that the batch truly has in a plan
pub record IsPlaneTable (q : Analysis) (table : List Outcome) : Type 0 where
  pub count : length table ≡ batch_count q
  pub planes : planes_in_order table ≡ true_planes q

-- so by each of these readings, in order
pub record ArePlaneTables (p : Analysis) (readings : List Reading) (tables : List (List Outcome)) : Type 0 where
  pub count : length tables ≡ length readings
  pub each : (r : ℕ) → r < length readings → IsPlaneTable (plan_by p (reading_at readings r)) (table_at tables r)
