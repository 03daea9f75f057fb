-- Faults that change nothing in a stretch of a run.
use Rattle.std.specs.Prelude.{◌≡◌, ◌≤◌, ◌<◌, ◌⊎◌, ℕ, false, List, length}
use Rattle.circuit.specs.declared.parts.Fault.{Fault}
use Rattle.circuit.specs.Circuit.{Circuit}
use Rattle.workload.specs.declared.run.Run.{Run}
use Rattle.lane_words.specs.Loads.{loaded_faults}
use Rattle.place_set.specs.Places.{Places, has}
use Rattle.testbench.specs.Resting.{Rest}
use Rattle.fault_runs.specs.First.{fault_in}
use Rattle.workload.specs.Runs.{cycles_of, run_at}
use Rattle.fault_runs.specs.Stretch.{state_at}
use Rattle.fault_runs.specs.declared.resting.Stretch.{Stretch}

-- at the start of these cycles of a run no latch differs, and the faults change nothing in them
pub record AreAtRest (c : Circuit) (run : Run) (x : List Fault) (from to : ℕ) (state : Places) : Type 0 where
  pub latches : (latch : ℕ) → has state latch ≡ false
  pub rest : Rest c x run.vectors from to

-- the same of a fault of a draw, in a stretch
abbrev pub IsAtRest : Stretch → ℕ → Type 0
IsAtRest s i = AreAtRest s.bench.now.circuit (run_at s.bench.now.runs s.run) (loaded_faults s.draw.now i) s.from s.to (state_at s.states.now i)

-- ---- shapes of private steps

-- the run has the stretch
pub record IsWithin (s : Stretch) : Type 0 where
  pub run : s.run < length s.bench.now.runs
  pub from : s.from ≤ s.to
  pub to : s.to ≤ cycles_of (run_at s.bench.now.runs s.run)

-- a fault is in one of the first lanes of a group
abbrev pub IsAmong : (group : List ℕ) (count : ℕ) → ℕ → Type 0
IsAmong group count i = (k : ℕ) × (k < count) × (fault_in group k ≡ i)

-- a fault is there, or it is at rest and isn't
abbrev pub IsTaken : Stretch → (group : List ℕ) (count : ℕ) → ℕ → Type 0
IsTaken s group count i = IsAmong group count i ⊎ (IsAtRest s i × ((k : ℕ) → k < count → fault_in group k ≡ i → ⊥))
