-- Shapes of private steps: what a worker simulates with, and what it has kept. Nothing public cites them.
use Rattle.std.specs.Prelude.{◌≡◌, ℕ, ◌+◌, ◌*◌, ◌<◌, ◌≤◌, List, [], length, slice_index_or}
use Rattle.std.specs.Int.{div_ceil}
use Rattle.batch_crew.specs.Crew.{HaveWorked}
use Rattle.batch_crew.specs.declared.rounds.WorkerShare.{WorkerShare}
use Rattle.campaign_plan.specs.Analysis.{Analysis, fault_count}
use Rattle.testbench.specs.Testbench.{Testbench}
use Rattle.fault_runs.specs.Draw.{IsDrawFor}
use Rattle.fault_runs.specs.Whole.{ArePathsTo}
use Rattle.latency_table.specs.Latency.{IsLatencyFor, latency_at}
use Rattle.latency_table.specs.declared.worker.LatencyWorker.{LatencyWorker}
use Rattle.latency_table.specs.declared.latency.Latency.{Latency}

-- what is kept of the faults of a group
abbrev pub group_at : List (List Latency) → ℕ → List Latency
group_at groups round = slice_index_or groups round []

-- a worker with a draw of 1,024 faults for a testbench, the paths to its alarm points, and room for so many groups of as many faults
pub record IsEquippedFor (bench : Testbench) (rounds : ℕ) (worker : LatencyWorker) : Type 0 where
  pub made : IsDrawFor bench worker.draw
  pub size : length worker.draw.faults.items ≡ 1024
  pub paths : ArePathsTo bench.circuit bench.points worker.paths
  pub rounds_are : length worker.groups.items ≡ rounds
  pub room : (round : ℕ) → round < rounds → length (group_at worker.groups.items round) ≡ 1024

-- how many rounds each of so many workers does: each fault is in one of their groups
abbrev pub rounds_for : Analysis → ℕ → ℕ
rounds_for p workers = div_ceil (fault_count p) (workers * 1024)

-- the number of a fault: of a worker's share, in one of its rounds, in one of 1,024 places
abbrev pub number_in : WorkerShare → (round lane : ℕ) → ℕ
number_in share round lane = (round * share.workers + share.number) * 1024 + lane

-- the group of a round has what is kept of each of its faults
abbrev pub HasGroup : Analysis → WorkerShare → (round : ℕ) → List (List Latency) → Type 0
HasGroup p share round groups =
    (lane : ℕ) → lane < 1024 → number_in share round lane < fault_count p
    → IsLatencyFor p (number_in share round lane) (latency_at (group_at groups round) lane)

-- the worker of a share has room for all its rounds, and has what is kept of each fault of so many of them
pub record HasKept (p : Analysis) (bench : Testbench) (share : WorkerShare) (rounds : ℕ) (worker : LatencyWorker) : Type 0 where
  pub equipped : IsEquippedFor bench (rounds_for p share.workers) worker
  pub kept : (round : ℕ) → round < rounds → HasGroup p share round worker.groups.items

-- each of some workers has done all rounds of its share
pub record HaveKept (p : Analysis) (crew : List LatencyWorker) : Type 0 where
  pub bench : Testbench
  pub some : 0 < length crew
  pub each : HaveWorked (HasKept p bench) (rounds_for p) crew
