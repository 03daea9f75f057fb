-- What a run has shown so far of each fault of a draw.
use Rattle.std.specs.Prelude.{◌≡◌, ℕ, ◌<◌, List, [], Option, length, slice_index_or}
use Rattle.alarm_points.specs.declared.Points.{Points}
use Rattle.fault_runs.specs.First.{AreKnown, FirstCycles, first_of}
use Rattle.fault_runs.specs.declared.record.AlarmCycles.{AlarmCycles}

-- the number of faults, and of each goal and of each alarm point, in the order of the points, the cycles of each fault
pub record FaultRecords : Type 0 where
  pub faults : ℕ
  pub goals : List FirstCycles
  pub alarms : List AlarmCycles

-- the cycles of a goal, and of an alarm point, by its number
abbrev pub goal_cycles : List FirstCycles → ℕ → FirstCycles
goal_cycles goals g = slice_index_or goals g (record { cycles = []; known = [] })

abbrev pub alarm_cycles : List AlarmCycles → ℕ → AlarmCycles
alarm_cycles alarms a = slice_index_or alarms a (record { raised = record { cycles = []; known = [] }; silenced = record { cycles = []; known = [] } })

-- what a run has shown of one fault: of each goal, by its number, the first cycle in which a point of it differs; and of each alarm point the
-- first cycle in which it is raised, and the first in which it is silenced
pub record RunShown : Type 0 where
  pub difference : ℕ → Option ℕ
  pub alarm : ℕ → Option ℕ
  pub silence : ℕ → Option ℕ

-- the record of a fault, by its number in the draw
abbrev pub record_of : FaultRecords → ℕ → RunShown
record_of r i = record {
  difference = λ g. first_of (goal_cycles r.goals g) i;
  alarm = λ a. first_of (alarm_cycles r.alarms a).raised i;
  silence = λ a. first_of (alarm_cycles r.alarms a).silenced i;
}

-- nothing was shown in between
pub record IsSameRecord (old new : RunShown) : Type 0 where
  pub difference : (g : ℕ) → new.difference g ≡ old.difference g
  pub alarm : (a : ℕ) → new.alarm a ≡ old.alarm a
  pub silence : (a : ℕ) → new.silence a ≡ old.silence a

-- the records were made for these points: each goal and each alarm point has a place for each fault
pub record AreRecordsFor (points : Points) (r : FaultRecords) : Type 0 where
  pub goals : length r.goals ≡ length points.goals
  pub alarms : length r.alarms ≡ length points.alarm
  pub differences : (g : ℕ) → g < length points.goals → length (goal_cycles r.goals g).cycles ≡ r.faults
  pub raised : (a : ℕ) → a < length points.alarm → length (alarm_cycles r.alarms a).raised.cycles ≡ r.faults
  pub silenced : (a : ℕ) → a < length points.alarm → length (alarm_cycles r.alarms a).silenced.cycles ≡ r.faults

-- ---- shapes of private steps: what is known of the lanes of a group

abbrev pub IsGoalKnown : List ℕ → FirstCycles → Type 0
IsGoalKnown group firsts = AreKnown group firsts.known firsts.cycles

pub record IsAlarmKnown (group : List ℕ) (alarm : AlarmCycles) : Type 0 where
  pub raised : AreKnown group alarm.raised.known alarm.raised.cycles
  pub silenced : AreKnown group alarm.silenced.known alarm.silenced.cycles

pub record AreKnownIn (group : List ℕ) (r : FaultRecords) : Type 0 where
  pub goals : (g : ℕ) → g < length r.goals → IsGoalKnown group (goal_cycles r.goals g)
  pub alarms : (a : ℕ) → a < length r.alarms → IsAlarmKnown group (alarm_cycles r.alarms a)
