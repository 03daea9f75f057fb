-- How danger and notice go with the interval and with the alarm points.
use Rattle.std.specs.Prelude.{◌≡◌, ◌⊎◌, ℕ, ◌<◌, ◌≤◌, true, false, List, Contains}
use Rattle.circuit.specs.declared.parts.Fault.{Fault}
use Rattle.circuit.specs.declared.parts.NetId.{NetId}
use Rattle.circuit.specs.Circuit.{Circuit}
use Rattle.workload.specs.declared.run.Run.{Run}
use Rattle.alarm_points.specs.declared.Points.{Points}
use Rattle.metric_sums.specs.declared.Class.{Class}
use Rattle.metric_sums.specs.declared.Class.TheVariants.{Detected}
use Rattle.metric_sums.specs.Classes.{is_danger}
use Rattle.campaign_plan.specs.Analysis.{Analysis, fault_count, with_interval}
use Rattle.campaign_plan.specs.Batches.{true_planes}
use Rattle.campaign_plan.specs.Danger.{is_dangerous, is_noticed}
use Rattle.campaign_plan.specs.Laws.{class_alone}
use Rattle.fmeda_report.specs.Report.{all_sums}

-- ---- a longer interval

-- faults that are dangerous at a longer interval are so at a shorter one
abbrev pub LongerTakesDanger : Type 0
LongerTakesDanger = (c : Circuit) (points : Points) (runs : List Run) (x : List Fault) (short long : ℕ) → short ≤ long
    → is_dangerous c points long runs x ≡ true → is_dangerous c points short runs x ≡ true

-- a fault keeps its class, or it was residual or single-point and isn't any more
abbrev pub KeepsOrLeavesDanger : (before after : Class) → Type 0
KeepsOrLeavesDanger before after = (after ≡ before) ⊎ ((is_danger before ≡ true) × (is_danger after ≡ false))

-- classes: so does each fault at a longer interval
-- permanent, transient: the sums of danger can only fall
pub record AreLessDangerous (p : Analysis) (long : ℕ) : Type 0 where
  pub classes : (i : ℕ) → i < fault_count p → KeepsOrLeavesDanger (class_alone p i) (class_alone (with_interval p long) i)
  pub permanent : (all_sums (with_interval p long) (true_planes (with_interval p long))).permanent_danger ≤ (all_sums p (true_planes p)).permanent_danger
  pub transient : (all_sums (with_interval p long) (true_planes (with_interval p long))).transient_danger ≤ (all_sums p (true_planes p)).transient_danger

-- A LONGER INTERVAL CAN ONLY TAKE DANGER AWAY
abbrev pub LongerIntervalIsLessDangerous : Type 0
LongerIntervalIsLessDangerous = (p : Analysis) (long : ℕ) → p.settings.ftti ≤ long → AreLessDangerous p long

-- ---- more alarm points

-- the same goals with these alarm nets
abbrev pub with_alarms : Points → List NetId → Points
with_alarms points alarms = record points { alarm = alarms }

-- each alarm net of these points is one of those nets too
abbrev pub AreMore : Points → List NetId → Type 0
AreMore points alarms = (net : NetId) → Contains points.alarm net → Contains alarms net

-- danger: faults that are dangerous with more alarm nets are so with fewer
-- notice: faults that are noticed with fewer alarm nets are so with more
-- instead: faults that more alarm nets make harmless are noticed with them
pub record AreMoreWatchful (c : Circuit) (points : Points) (alarms : List NetId) (ftti : ℕ) (runs : List Run) (x : List Fault) : Type 0 where
  pub danger : is_dangerous c (with_alarms points alarms) ftti runs x ≡ true → is_dangerous c points ftti runs x ≡ true
  pub notice : is_noticed c points runs x ≡ true → is_noticed c (with_alarms points alarms) runs x ≡ true
  pub instead : is_dangerous c points ftti runs x ≡ true → is_dangerous c (with_alarms points alarms) ftti runs x ≡ false
      → is_noticed c (with_alarms points alarms) runs x ≡ true

-- MORE ALARM POINTS CAN ONLY TAKE DANGER AWAY AND GIVE NOTICE
abbrev pub MoreAlarmsAreLessDangerous : Type 0
MoreAlarmsAreLessDangerous = (c : Circuit) (points : Points) (alarms : List NetId) → AreMore points alarms
    → (ftti : ℕ) (runs : List Run) (x : List Fault) → AreMoreWatchful c points alarms ftti runs x

-- and so each fault keeps its class, or is detected
abbrev pub MoreAlarmsDetect : Type 0
MoreAlarmsDetect = (p : Analysis) (alarms : List NetId) → AreMore p.points alarms → (i : ℕ) → i < fault_count p
    → let more : Analysis = record p { points = with_alarms p.points alarms } in (class_alone more i ≡ class_alone p i) ⊎ (class_alone more i ≡ Detected)
