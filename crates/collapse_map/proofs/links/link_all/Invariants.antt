use Rattle.std.proofs.Common.{List, length}
use Rattle.circuit.specs.declared.parts.Fault.{Fault}
use Rattle.circuit.specs.declared.parts.NetId.{NetId}
use Rattle.collapse_map.specs.Settled.{AreGiven, AreAllReached, collapsed}
use Rattle.collapse_map.proofs.links.link_all.Given as goal

-- the nets from this place on were reached
abbrev pub invariant-loop-at : goal.invariant-loop-at
invariant-loop-at l =
    (faults : List Fault) (watched : List NetId) → AreGiven (collapsed l.net faults watched) l.looks l.order
    → AreAllReached (collapsed l.net faults watched) l.order (length l.order) l.initial.reps → AreAllReached (collapsed l.net faults watched) l.order l.at l.reps
