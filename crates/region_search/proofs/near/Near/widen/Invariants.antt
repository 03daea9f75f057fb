use Rattle.std.specs.Prelude.{All}
use Rattle.circuit.specs.Sound.{IsNet}
use Rattle.region_search.proofs.near.Near.widen.Given as goal

abbrev pub invariant-loop-at : goal.invariant-loop-at
invariant-loop-at l = All (IsNet l.watchers.circuit) l.self.nets
