-- Faults that stand beside one another in a list.
use Rattle.std.specs.Prelude.{Bool, false, ◌==◌}
use Rattle.circuit.specs.declared.parts.Fault.{Fault}
use Rattle.circuit.specs.declared.parts.Fault.TheVariants.{Stuck, Flip, Pulse}

-- two faults are of one kind, and on one net or one latch
abbrev pub are_beside : Fault → Fault → Bool
are_beside (Stuck n v) (Stuck m w) = n.0 == m.0
are_beside (Flip l t) (Flip k u) = l == k
are_beside (Pulse n t) (Pulse m u) = n.0 == m.0
are_beside _ _ = false
