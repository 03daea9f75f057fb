use Rattle.std.proofs.Common.{◌≡◌, ◌<◌, ◌⊎◌, ℕ, true, is_some, length}
use Rattle.lane_words.specs.Loads.{somes}
use Rattle.fault_runs.specs.First.{first_of}
use Rattle.fault_runs.specs.Records.{alarm_cycles}
use Rattle.fault_runs.specs.Whole.{NeverChange}
use Rattle.testbench.specs.Points.{alarm_at}
use Rattle.fault_runs.proofs.whole.AllShown.have_raised.Given as goal

-- those so far were raised, or the faults never change them
abbrev pub invariant-loop-a : goal.invariant-loop-a
invariant-loop-a l =
    (b : ℕ) → b < l.a → b < length l.self.bench.now.points.alarm
    → (is_some (first_of (alarm_cycles l.alarms b).raised l.fault) ≡ true) ⊎ NeverChange l.self.bench.now.circuit (somes l.faults) (alarm_at l.self.bench.now.points.alarm b)
