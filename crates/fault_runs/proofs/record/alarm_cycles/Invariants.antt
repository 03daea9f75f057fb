use Rattle.std.proofs.Common.{◌≡◌, ◌<◌, ℕ, length}
use Rattle.fault_runs.specs.Records.{alarm_cycles}
use Rattle.fault_runs.proofs.record.alarm_cycles.Given as goal

-- so many so far, each for these faults
abbrev pub invariant-loop : goal.invariant-loop
invariant-loop l = record {
  count : length l.alarms.items ≡ l.counter;
  raised : (a : ℕ) → a < length l.alarms.items → length (alarm_cycles l.alarms.items a).raised.cycles ≡ l.faults;
  silenced : (a : ℕ) → a < length l.alarms.items → length (alarm_cycles l.alarms.items a).silenced.cycles ≡ l.faults;
}
