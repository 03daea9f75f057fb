-- Shapes of private steps: what a worker judges pairs with, and what it has judged.
use Rattle.std.specs.Prelude.{◌≡◌, ℕ, ◌+◌, ◌*◌, ◌%◌, ◌<◌, List, [], ◌∷◌, length, slice_index, if◌then◌else◌}
use Rattle.std.specs.Int.{div_ceil}
use Rattle.batch_crew.specs.declared.rounds.WorkerShare.{WorkerShare}
use Rattle.circuit.specs.declared.parts.Fault.{Fault}
use Rattle.fault_list.specs.Faults.{batches_for, fault_number, is_used}
use Rattle.fm_base.specs.Planes.{bit}
use Rattle.campaign_plan.specs.Analysis.{Analysis, fault_numbered}
use Rattle.campaign_plan.specs.Danger.{is_dangerous}
use Rattle.campaign_plan.specs.declared.Outcome.{Outcome}
use Rattle.classifier.specs.Planes.{outcome_at}
use Rattle.classifier.specs.Simulator.{simulator_of}
use Rattle.testbench.specs.Testbench.{Testbench}
use Rattle.pair_list.specs.Chosen.{Chosen, pair_count, pair_numbered}
use Rattle.pair_campaign.specs.declared.worker.PairWorker.{PairWorker}
use Rattle.pair_campaign.specs.PairPlanes.{pair_plane}

-- the faults of a pair, the first before the second
abbrev pub both_faults : Analysis → ℕ × ℕ → List Fault
both_faults p pair = fault_numbered p pair.0 ∷ fault_numbered p pair.1 ∷ []

-- the faults in a lane of a plane: both of the pair there, and none where the lane holds no pair
abbrev pub faults_in_lane : Analysis → Chosen → ℕ → ℕ → List Fault
faults_in_lane p c plane lane = if is_used (pair_count c) plane lane then both_faults p (pair_numbered c (fault_number plane lane)) else []

-- the danger of each lane is that of the faults there, as a plane of pairs is loaded
abbrev pub ShowsPlane : Analysis → Chosen → ℕ → Outcome → Type 0
ShowsPlane p c plane outcome =
    (k : ℕ) → k < 64 → bit outcome.danger k ≡ is_dangerous p.circuit p.points p.settings.ftti p.runs (faults_in_lane p c plane k)

-- so in each of four words: the first is of plane `first`, and each other of the plane `apart` further
abbrev pub ShowPlanes : Analysis → Chosen → (first apart : ℕ) → List Outcome → Type 0
ShowPlanes p c first apart outcomes = (word : ℕ) → word < 4 → ShowsPlane p c (first + word * apart) (outcome_at outcomes word)

-- a worker with a simulator for the plan, on this testbench, and with room for so many planes
pub record IsEquippedFor (p : Analysis) (bench : Testbench) (planes : ℕ) (worker : PairWorker) : Type 0 where
  pub simulator : worker.simulator ≡ simulator_of bench p.settings.ftti
  pub room : length worker.planes.items ≡ planes

-- how often four planes are taken at once by each of so many workers
abbrev pub rounds_for : Chosen → ℕ → ℕ
rounds_for c workers = div_ceil (batches_for (pair_count c)) (4 * workers)

-- the worker of a share is equipped; of the planes of so many of its rounds, each whose number leaves its own as the remainder is at its place
pub record HasJudged (p : Analysis) (bench : Testbench) (c : Chosen) (share : WorkerShare) (rounds : ℕ) (worker : PairWorker) : Type 0 where
  pub equipped : IsEquippedFor p bench (batches_for (pair_count c)) worker
  pub own : (q : ℕ) → q < batches_for (pair_count c) → q % share.workers ≡ share.number → q < rounds * (4 * share.workers)
      → slice_index worker.planes.items q ≡ pair_plane p c q
