-- Lanes in a run, as they are followed.
use Rattle.std.specs.Prelude.{◌≡◌, ℕ, ◌<◌, ◌+◌, Bool, List, take}
use Rattle.circuit.specs.declared.parts.Fault.{Fault}
use Rattle.workload.specs.declared.run.Kind.{Kind}
use Rattle.workload.specs.declared.run.Run.{Run}
use Rattle.workload.specs.Runs.{cycles_of}
use Rattle.golden_difference.specs.Beside.{AreBeside, IsGoldenRow, IsOver}
use Rattle.golden_difference.specs.Lanes.{Lanes}
use Rattle.testbench.specs.Load.{Load, in_lane, load_of}
use Rattle.testbench.specs.Testbench.{Testbench}

-- what the lanes were made for and loaded with, the faults that are in force in each lane of a word, the number of cycles since the start of
-- the run, and the vectors with which they have run beside the golden run
pub record LanesInRun : Type 1 where
  pub load : Load
  pub faults : ℕ → ℕ → List Fault
  pub cycle : ℕ
  pub IsAfter : List (List Bool) → Type 0

-- so of the kernel's lanes, where a word has so many with these bits
abbrev pub in_run : {W : Type 0} → ℕ → (W → ℕ → Bool) → Lanes W → LanesInRun
in_run count bit lanes = record {
  load = load_of lanes;
  faults = in_lane lanes.in_force;
  cycle = lanes.cycle;
  IsAfter = λ vectors. AreBeside count bit vectors lanes;
}

-- they were made for the testbench
pub record IsForBench (bench : Testbench) (load : Load) : Type 0 where
  pub circuit : load.circuit ≡ bench.circuit
  pub order : load.order ≡ bench.order

-- at most the faults in force have changed
pub record KeepPlace (old new : LanesInRun) : Type 0 where
  pub load : new.load ≡ old.load
  pub cycle : new.cycle ≡ old.cycle
  pub after : (vectors : List (List Bool)) → old.IsAfter vectors → new.IsAfter vectors

-- the last cycle is cycle t of a run of this kind, and the row has its golden values
pub record IsLastCycle (kind : Kind) (run : Run) (t : ℕ) (row : List ℕ) (lanes : LanesInRun) : Type 0 where
  pub of_kind : run.kind ≡ kind
  pub within : t < cycles_of run
  pub after : lanes.IsAfter (take (t + 1) run.vectors)
  pub golden : IsGoldenRow lanes.load.circuit run.vectors t row

-- the run is over in each lane, behind these vectors
abbrev pub AreAllOver : ℕ → LanesInRun → List (List Bool) → Type 0
AreAllOver words lanes vectors = (word k : ℕ) → word < words → k < 64 → IsOver lanes.load.circuit (lanes.faults word k) vectors 65536
