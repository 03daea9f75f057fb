use Rattle.std.proofs.Common.{◌≡◌, ◌<◌, ◌||◌, ◌&&◌, ℕ, false, is_some, get_or}
use Rattle.workload.specs.Runs.{is_test}
use Rattle.fault_runs.specs.First.{first_of}
use Rattle.fault_runs.specs.Records.{alarm_cycles}
use Rattle.reading_planes.proofs.cycles.take_notices.Given as goal

-- those of the alarm points so far are taken
abbrev pub invariant-loop-a : goal.invariant-loop-a
invariant-loop-a l =
    (h : ℕ) → h < l.a
    → get_or l.notices h false ≡ (is_some (first_of (alarm_cycles l.points h).raised l.fault) || (is_test l.kind && is_some (first_of (alarm_cycles l.points h).silenced l.fault)))
