use Rattle.std.proofs.Common.{◌≡◌, ◌<◌, ℕ, length, None}
use Rattle.fault_runs.specs.First.{first_of}
use Rattle.fault_runs.specs.Records.{alarm_cycles}
use Rattle.fault_runs.proofs.record.start_alarms.Given as goal

-- the alarm points so far have seen nothing
abbrev pub invariant-loop-alarm : goal.invariant-loop-alarm
invariant-loop-alarm l = record {
  raised_count : (a : ℕ) → length (alarm_cycles l.alarms a).raised.cycles ≡ length (alarm_cycles l.initial.alarms a).raised.cycles;
  silenced_count : (a : ℕ) → length (alarm_cycles l.alarms a).silenced.cycles ≡ length (alarm_cycles l.initial.alarms a).silenced.cycles;
  raised : (a i : ℕ) → a < l.alarm-index → first_of (alarm_cycles l.alarms a).raised i ≡ None;
  silenced : (a i : ℕ) → a < l.alarm-index → first_of (alarm_cycles l.alarms a).silenced i ≡ None;
}
