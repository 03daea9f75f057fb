use Rattle.std.specs.Prelude.{All}
use Rattle.circuit.specs.Circuit.{Circuit}
use Rattle.circuit.specs.Sound.{IsNet}
use Rattle.region_search.proofs.near.Near.add_all.Given as goal

abbrev pub invariant-loop-net : goal.invariant-loop-net
invariant-loop-net l = (c : Circuit) → All (IsNet c) l.initial.self.nets → All (IsNet c) l.nets → All (IsNet c) l.self.nets
