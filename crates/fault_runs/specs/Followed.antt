-- Faults followed through a run to its end, or until what was seen of them is enough.
use Rattle.std.specs.Prelude.{◌≡◌, ℕ, ◌<◌, ◌≤◌, ◌⊎◌, true, List, Option, length}
use Rattle.circuit.specs.declared.parts.Fault.{Fault}
use Rattle.circuit.specs.Circuit.{Circuit}
use Rattle.workload.specs.declared.run.Run.{Run}
use Rattle.workload.specs.Runs.{cycles_of}
use Rattle.alarm_points.specs.declared.Points.{Points}
use Rattle.lane_words.specs.Loads.{loaded_faults}
use Rattle.place_set.specs.Places.{Places, has}
use Rattle.fault_runs.specs.Records.{FaultRecords, RunShown, record_of}
use Rattle.fault_runs.specs.Shown.{HasShown}
use Rattle.fault_runs.specs.Stretch.{Stands, state_at}

-- when a fault may leave a run: after so many cycles, with what they have shown of it
abbrev pub MayLeave : Type 1
MayLeave = (cycles : ℕ) → RunShown → Type 0

-- after n cycles these faults were let go, by what had been shown then
pub record WasLetGo (c : Circuit) (points : Points) (run : Run) (x : List Fault) (may_leave : MayLeave) (n : ℕ) : Type 0 where
  pub then : RunShown
  pub shown : HasShown c points run x n then
  pub leaves : may_leave n then

-- these faults were followed: the record has what some cycles of the run show, which is what the whole run shows, or they might leave then
pub record IsFollowed (c : Circuit) (points : Points) (run : Run) (x : List Fault) (may_leave : MayLeave) (r : RunShown) : Type 0 where
  pub n : ℕ
  pub within : n ≤ cycles_of run
  pub shown : HasShown c points run x n r
  pub enough : HasShown c points run x (cycles_of run) r ⊎ WasLetGo c points run x may_leave n

-- ---- shapes of private steps

-- each fault of a draw that is still active stands so
abbrev pub AreActiveStanding : Circuit → Points → Run → (draw : List (List (Option Fault))) → (active : Places) → (t : ℕ) → List Places → FaultRecords → Type 0
AreActiveStanding c points run draw active t states records =
    (i : ℕ) → i < length draw → has active i ≡ true → Stands c points run (loaded_faults draw i) t (state_at states i) (record_of records i)
