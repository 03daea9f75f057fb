use Rattle.std.proofs.Common.{◌≡◌, ◌<◌, ℕ, Bool, false, length, get_or, take}
use Rattle.std.specs.List.{list_any}
use Rattle.circuit.specs.declared.parts.NetId.{NetId}
use Rattle.reading_planes.specs.Readings.{others}
use Rattle.reading_planes.proofs.notice.some_other.Given as goal
use Rattle.testbench.specs.Points.{alarm_at}

-- no other so far gives notice
abbrev pub invariant-loop-a : goal.invariant-loop-a
invariant-loop-a l =
    (gives : NetId → Bool) → ((b : ℕ) → b < length l.nets → get_or l.notices b false ≡ gives (alarm_at l.nets b)) → list_any gives (others l.out (take l.a l.nets)) ≡ false
