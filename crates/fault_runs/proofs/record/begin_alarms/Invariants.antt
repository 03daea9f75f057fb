use Rattle.std.proofs.Common.{◌≡◌, ◌<◌, ℕ, List}
use Rattle.fault_runs.specs.Records.{IsAlarmKnown, alarm_cycles}
use Rattle.fault_runs.proofs.record.begin_alarms.Given as goal

-- the group has begun at the alarm points so far
abbrev pub invariant-loop-alarm : goal.invariant-loop-alarm
invariant-loop-alarm l = record {
  raised : (a : ℕ) → (alarm_cycles l.alarms a).raised.cycles ≡ (alarm_cycles l.initial.alarms a).raised.cycles;
  silenced : (a : ℕ) → (alarm_cycles l.alarms a).silenced.cycles ≡ (alarm_cycles l.initial.alarms a).silenced.cycles;
  known : (group : List ℕ) (a : ℕ) → a < l.alarm-index → IsAlarmKnown group (alarm_cycles l.alarms a);
}
