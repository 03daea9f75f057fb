use Rattle.std.proofs.Common.{◌≡◌, is_some, take}
use Rattle.std.specs.List.{list_any}
use Rattle.fault_runs.specs.First.{first_of}
use Rattle.latency_table.proofs.shows.some_silenced.Given as goal

-- whether one of those so far is
abbrev pub invariant-loop-alarm : goal.invariant-loop-alarm
invariant-loop-alarm l = l.silenced ≡ list_any (λ alarm. is_some (first_of alarm.silenced l.fault)) (take l.alarm-index l.alarms)
