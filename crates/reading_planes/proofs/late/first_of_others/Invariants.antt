use Rattle.std.proofs.Common.{◌≡◌, ◌<◌, ℕ, Option, None, length, map, take, get_or}
use Rattle.circuit.specs.declared.parts.NetId.{NetId}
use Rattle.first_cycles.specs.FirstCycles.{earliest}
use Rattle.reading_planes.specs.Readings.{others}
use Rattle.reading_planes.proofs.late.first_of_others.Given as goal
use Rattle.testbench.specs.Points.{alarm_at}

-- the earliest of those so far
abbrev pub invariant-loop-a : goal.invariant-loop-a
invariant-loop-a l =
    (alarm : NetId → Option ℕ) → ((b : ℕ) → b < length l.nets → get_or l.alarms b None ≡ alarm (alarm_at l.nets b)) → l.first ≡ earliest (map alarm (others l.out (take l.a l.nets)))
