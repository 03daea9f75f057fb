-- How faults stand in a run, and the lanes that they are followed in.
use Rattle.std.specs.Prelude.{◌≡◌, ℕ, ◌+◌, ◌<◌, Bool, List, [], Option, length, take, slice_index_or}
use Rattle.circuit.specs.declared.parts.Fault.{Fault}
use Rattle.circuit.specs.Circuit.{Circuit}
use Rattle.workload.specs.declared.run.Run.{Run}
use Rattle.workload.specs.Runs.{cycles_of}
use Rattle.alarm_points.specs.declared.Points.{Points}
use Rattle.golden_difference.specs.Beside.{AreBeside, IsGoldenRow, IsStateOf}
use Rattle.golden_difference.specs.Lanes.{Lanes}
use Rattle.lane_words.specs.Loads.{loaded_faults}
use Rattle.place_set.specs.Places.{Places}
use Rattle.fault_runs.specs.First.{fault_in}
use Rattle.fault_runs.specs.Records.{FaultRecords, RunShown, record_of}
use Rattle.fault_runs.specs.Shown.{HasShown}

-- these faults stand before cycle t of a run: the state has the latches that differ then, and the record what the cycles so far have shown
pub record Stands (c : Circuit) (points : Points) (run : Run) (x : List Fault) (t : ℕ) (state : Places) (r : RunShown) : Type 0 where
  pub latches : IsStateOf c x (take t run.vectors) state
  pub shown : HasShown c points run x t r

-- the state of a number of a draw
abbrev pub state_at : List Places → ℕ → Places
state_at states i = slice_index_or states i (record { bound = 0; words = [] })

-- each member of a group stands so
abbrev pub AreStanding : Circuit → Points → Run → (draw : List (List (Option Fault))) → (group : List ℕ) → (t : ℕ) → List Places → FaultRecords → Type 0
AreStanding c points run draw group t states records =
    (k : ℕ) → k < length group → Stands c points run (loaded_faults draw (fault_in group k)) t (state_at states (fault_in group k)) (record_of records (fault_in group k))

-- each lane has the faults of its member of the group in force
abbrev pub AreInForce : (draw : List (List (Option Fault))) → (group : List ℕ) → (in_force : List (List (Option Fault))) → Type 0
AreInForce draw group in_force = (k : ℕ) → k < length group → loaded_faults in_force k ≡ loaded_faults draw (fault_in group k)

-- ---- a shape of private steps

-- cycle t of a run was simulated last, with the faults of a group in force; `row` has the golden values of this cycle
pub record IsAfterCycle {W : Type 0} (count : ℕ) (bit : W → ℕ → Bool) (run : Run) (t : ℕ) (draw : List (List (Option Fault))) (group row : List ℕ) (lanes : Lanes W) : Type 0 where
  pub within : t < cycles_of run
  pub beside : AreBeside count bit (take (t + 1) run.vectors) lanes
  pub golden : IsGoldenRow lanes.circuit run.vectors t row
  pub in_force : AreInForce draw group lanes.in_force
