use Rattle.std.proofs.Common.{◌≡◌, ◌<◌, ◌≤◌, ℕ, List, length}
use Rattle.std.specs.Prelude.{Option}
use Rattle.circuit.specs.declared.parts.Fault.{Fault}
use Rattle.workload.specs.declared.run.Run.{Run}
use Rattle.lane_words.specs.Loads.{loaded_faults}
use Rattle.first_cycles.specs.FirstCycles.{first_with, is_raised_at}
use Rattle.first_cycles.specs.Shown.{is_silenced_at}
use Rattle.fault_runs.specs.First.{IsNotIn, fault_in, first_of}
use Rattle.fault_runs.specs.Records.{IsAlarmKnown, alarm_cycles}
use Rattle.fault_runs.specs.Stretch.{IsAfterCycle}
use Rattle.fault_runs.proofs.see.see_alarms.Given as goal
use Rattle.testbench.specs.Points.{alarm_at}

-- the alarm points so far have seen the cycle, and the others are as they were
abbrev pub invariant-loop-a : goal.invariant-loop-a
invariant-loop-a o l = record {
  count : length l.alarms ≡ length l.nets;
  raised_places : (b : ℕ) → length (alarm_cycles l.alarms b).raised.cycles ≡ length (alarm_cycles l.initial.alarms b).raised.cycles;
  silenced_places : (b : ℕ) → length (alarm_cycles l.alarms b).silenced.cycles ≡ length (alarm_cycles l.initial.alarms b).silenced.cycles;
  known : (b : ℕ) → b < length l.nets → IsAlarmKnown l.group (alarm_cycles l.alarms b);
  raised : (run : Run) (draw : List (List (Option Fault))) (b k : ℕ) → b < l.a
      → IsAfterCycle o.W.Word.lanes o.W.Word.lane_bit run l.t draw l.group l.row l.lanes → k < length l.group
      → first_of (alarm_cycles l.alarms b).raised (fault_in l.group k)
      ≡ first_with (first_of (alarm_cycles l.initial.alarms b).raised (fault_in l.group k)) (is_raised_at l.lanes.circuit (loaded_faults draw (fault_in l.group k)) run (alarm_at l.nets b) l.t) l.t;
  silenced : (run : Run) (draw : List (List (Option Fault))) (b k : ℕ) → b < l.a
      → IsAfterCycle o.W.Word.lanes o.W.Word.lane_bit run l.t draw l.group l.row l.lanes → k < length l.group
      → first_of (alarm_cycles l.alarms b).silenced (fault_in l.group k)
      ≡ first_with (first_of (alarm_cycles l.initial.alarms b).silenced (fault_in l.group k)) (is_silenced_at l.lanes.circuit (loaded_faults draw (fault_in l.group k)) run (alarm_at l.nets b) l.t) l.t;
  raised_others : (b i : ℕ) → IsNotIn l.group i → first_of (alarm_cycles l.alarms b).raised i ≡ first_of (alarm_cycles l.initial.alarms b).raised i;
  silenced_others : (b i : ℕ) → IsNotIn l.group i → first_of (alarm_cycles l.alarms b).silenced i ≡ first_of (alarm_cycles l.initial.alarms b).silenced i;
  left : (b : ℕ) → l.a ≤ b → alarm_cycles l.alarms b ≡ alarm_cycles l.initial.alarms b;
}
