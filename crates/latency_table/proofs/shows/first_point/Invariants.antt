use Rattle.std.proofs.Common.{◌≡◌, ◌<◌, ℕ, Option, None, find, length, take}
use Rattle.circuit.specs.declared.parts.NetId.{NetId}
use Rattle.readings.specs.Laws.{is_at}
use Rattle.fault_runs.specs.First.{first_of}
use Rattle.fault_runs.specs.Records.{alarm_cycles}
use Rattle.latency_table.proofs.shows.first_point.Given as goal
use Rattle.testbench.specs.Points.{alarm_at}

-- none of those so far is
abbrev pub invariant-loop-a : goal.invariant-loop-a
invariant-loop-a l =
    (first : NetId → Option ℕ) → ((b : ℕ) → b < length l.nets → first_of (alarm_cycles l.alarms b).raised l.fault ≡ first (alarm_at l.nets b))
    → find (λ net. is_at (first net) l.cycle) (take l.a l.nets) ≡ None
