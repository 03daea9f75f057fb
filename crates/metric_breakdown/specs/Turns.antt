-- Which batches a worker takes, turn by turn, and its sums over them. Worker w of W takes each batch b with b mod W = w, in rising order.
use Rattle.std.specs.Prelude.{◌≡◌, ◌<◌, ℕ, ◌+◌, ◌*◌, List, length, if◌then◌else◌, nat_lt}
use Rattle.std.specs.Int.{div_ceil}
use Rattle.fm_base.specs.Lists.{below}
use Rattle.metric_sums.specs.declared.Sums.{Sums}
use Rattle.metric_sums.specs.Totals.{no_sums, sums_by}
use Rattle.campaign_plan.specs.declared.Outcome.{Outcome}
use Rattle.campaign_plan.specs.Analysis.{Analysis, batch_count, fault_count}
use Rattle.campaign_plan.specs.Batches.{own_sums, true_planes}
use Rattle.classifier.specs.Planes.{outcome_at}
use Rattle.reading_planes.specs.Folded.{reading_at}
use Rattle.reading_planes.specs.Readings.{plan_by}
use Rattle.reading_planes.specs.declared.reading.Reading.{Reading}
use Rattle.metric_breakdown.specs.Text.{sums_at}
use Rattle.batch_crew.specs.declared.rounds.WorkerShare.{WorkerShare}

-- the batch of a turn of a worker
abbrev pub batch_of_turn : WorkerShare → ℕ → ℕ
batch_of_turn share turn = turn * share.workers + share.number

-- how often four batches are taken at once by each of so many workers
abbrev pub rounds_for : Analysis → ℕ → ℕ
rounds_for p workers = div_ceil (fault_count p) (256 * workers)

-- the turns after which all batches were taken
abbrev pub turns_for : Analysis → ℕ → ℕ
turns_for p workers = 4 * rounds_for p workers

-- what a batch adds to the sums by a reading: nothing, where there is no such batch
abbrev pub batch_sums : Analysis → Reading → ℕ → Sums
batch_sums p reading batch = if nat_lt batch (batch_count p) then own_sums p batch (true_planes (plan_by p reading) batch) else no_sums

-- the sums of a worker by a reading, after so many turns
abbrev pub turn_sums : Analysis → WorkerShare → Reading → ℕ → Sums
turn_sums p share reading turns = sums_by (λ turn. batch_sums p reading (batch_of_turn share turn)) (below turns)

-- the worker has its sums by each reading
pub record HasSums (p : Analysis) (readings : List Reading) (share : WorkerShare) (turns : ℕ) (sums : List Sums) : Type 0 where
  pub count : length sums ≡ length readings
  pub each : (r : ℕ) → r < length readings → sums_at sums r ≡ turn_sums p share (reading_at readings r) turns

-- the sums by a reading of the first workers together
abbrev pub crew_sums : Analysis → Reading → (workers turns first : ℕ) → Sums
crew_sums p reading workers turns first = sums_by (λ number. turn_sums p (record { number = number; workers = workers }) reading turns) (below first)

-- so of all readings
pub record HaveSums (p : Analysis) (readings : List Reading) (workers turns first : ℕ) (sums : List Sums) : Type 0 where
  pub count : length sums ≡ length readings
  pub each : (r : ℕ) → r < length readings → sums_at sums r ≡ crew_sums p (reading_at readings r) workers turns first

-- the planes that were found of a batch add to the sums by each reading what its true planes add
pub record ShowsBatch (p : Analysis) (readings : List Reading) (batch : ℕ) (found : List Outcome) : Type 0 where
  pub count : length found ≡ length readings
  pub each : (r : ℕ) → r < length readings → own_sums p batch (outcome_at found r) ≡ own_sums p batch (true_planes (plan_by p (reading_at readings r)) batch)
