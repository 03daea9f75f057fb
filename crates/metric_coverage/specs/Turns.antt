-- Which batches a worker takes, turn by turn, and what it keeps of them. Worker w of W takes each batch b with b mod W = w, in rising order.
use Rattle.std.specs.Prelude.{◌≡◌, ◌<◌, ℕ, ◌+◌, ◌*◌, List, [], length, Some, slice_index_or}
use Rattle.std.specs.Int.{div_ceil}
use Rattle.batch_crew.specs.declared.rounds.WorkerShare.{WorkerShare}
use Rattle.campaign_plan.specs.declared.Outcome.{Outcome}
use Rattle.campaign_plan.specs.Analysis.{Analysis, all_faults, fault_count}
use Rattle.campaign_plan.specs.Batches.{true_planes}
use Rattle.classifier.specs.Batch.{alone_in}
use Rattle.classifier.specs.Planes.{HasPlanes, outcome_at}
use Rattle.reading_planes.specs.Folded.{reading_at}
use Rattle.reading_planes.specs.Readings.{ftti_by, plan_by, points_by}
use Rattle.reading_planes.specs.declared.reading.Reading.{Reading}

-- the batch of a turn of a worker
abbrev pub batch_of_turn : WorkerShare → ℕ → ℕ
batch_of_turn share turn = turn * share.workers + share.number

-- how often four batches are taken at once by each of so many workers
abbrev pub rounds_for : Analysis → ℕ → ℕ
rounds_for p workers = div_ceil (fault_count p) (256 * workers)

-- the turns after which all batches were taken
abbrev pub turns_for : Analysis → ℕ → ℕ
turns_for p workers = 4 * rounds_for p workers

-- what is kept of a turn
abbrev pub turn_at : List (List Outcome) → ℕ → List Outcome
turn_at turns turn = slice_index_or turns turn []

-- what lanes that were loaded with a batch have shown of it by each reading
pub record ShowsBatch (p : Analysis) (readings : List Reading) (batch : ℕ) (found : List Outcome) : Type 0 where
  pub count : length found ≡ length readings
  pub each : (r : ℕ) → r < length readings
      → HasPlanes p.circuit (points_by p.points (reading_at readings r)) (ftti_by p.settings.ftti (reading_at readings r)) p.runs (alone_in (all_faults p) (Some batch)) (outcome_at found r)

-- the planes that a batch truly has, by each reading
pub record HasBatch (p : Analysis) (readings : List Reading) (batch : ℕ) (kept : List Outcome) : Type 0 where
  pub count : length kept ≡ length readings
  pub each : (r : ℕ) → r < length readings → outcome_at kept r ≡ true_planes (plan_by p (reading_at readings r)) batch

-- a worker has room for all its turns, and has the planes of the batches of so many of them
pub record HasTurns (p : Analysis) (readings : List Reading) (share : WorkerShare) (total done : ℕ) (turns : List (List Outcome)) : Type 0 where
  pub room : length turns ≡ total
  pub wide : (turn : ℕ) → turn < total → length (turn_at turns turn) ≡ length readings
  pub kept : (turn : ℕ) → turn < done → HasBatch p readings (batch_of_turn share turn) (turn_at turns turn)
