use Rattle.std.proofs.Common.{◌≡◌, ◌<◌, ℕ, None, get_or}
use Rattle.fault_runs.specs.First.{first_of}
use Rattle.fault_runs.specs.Records.{alarm_cycles}
use Rattle.reading_planes.proofs.cycles.take_alarms.Given as goal

-- those of the alarm points so far are taken
abbrev pub invariant-loop-a : goal.invariant-loop-a
invariant-loop-a l = (h : ℕ) → h < l.a → get_or l.alarms h None ≡ first_of (alarm_cycles l.points h).raised l.fault
