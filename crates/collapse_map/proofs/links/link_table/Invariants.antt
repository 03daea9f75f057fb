use Rattle.std.proofs.Common.{◌≡◌, ◌+◌, ◌<◌, ℕ, List, length, take}
use Rattle.circuit.specs.declared.parts.Fault.{Fault}
use Rattle.circuit.specs.declared.parts.NetId.{NetId}
use Rattle.circuit.specs.Order.{net_at}
use Rattle.collapse_map.specs.Settled.{AreGiven, AreSeen, AreAllReached, collapsed}
use Rattle.collapse_map.proofs.links.link_table.Given as goal

-- the places so far were seen
abbrev pub invariant-loop-place : goal.invariant-loop-place
invariant-loop-place l =
    (faults : List Fault) (watched order : List NetId) (at : ℕ) → AreGiven (collapsed l.net faults watched) l.looks order → at < length order → net_at order at ≡ l.to
    → AreAllReached (collapsed l.net faults watched) order (at + 1) l.initial.reps → AreSeen (collapsed l.net faults watched) order at (take l.place l.table.ins) l.reps
