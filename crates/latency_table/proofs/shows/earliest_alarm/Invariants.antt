use Rattle.std.proofs.Common.{◌≡◌, map, take}
use Rattle.first_cycles.specs.FirstCycles.{earliest}
use Rattle.fault_runs.specs.First.{first_of}
use Rattle.latency_table.proofs.shows.earliest_alarm.Given as goal

-- that of the alarm points so far
abbrev pub invariant-loop-alarm : goal.invariant-loop-alarm
invariant-loop-alarm l = l.first ≡ earliest (map (λ alarm. first_of alarm.raised l.fault) (take l.alarm-index l.alarms))
