use Rattle.std.proofs.Common.{◌≡◌, ◌++◌, ◌∷◌, [], map, take}
use Rattle.circuit.specs.declared.parts.Latch.{Latch}
use Rattle.fanout.specs.Edges.{edges_from}
use Rattle.fanout.proofs.edge.push_latches.Given as goal

abbrev pub invariant-loop-number : goal.invariant-loop-number
invariant-loop-number l = l.edges.items ≡ l.initial.edges.items ++ edges_from l.first (map (λ (latch : Latch). latch.from ∷ []) (take l.number l.latches))
