use Rattle.std.proofs.Common.{◌≡◌, ℕ, List, ◌++◌, map, take}
use Rattle.std.specs.Prelude.{flat_map}
use Rattle.circuit.specs.declared.parts.NetId.{NetId}
use Rattle.collapse_map.specs.Looks.{AreLooks}
use Rattle.collapse_map.proofs.looks.look_at.Given as goal

abbrev pub invariant-loop-net : goal.invariant-loop-net
invariant-loop-net l = (seen : List NetId) → AreLooks seen l.initial.looks → AreLooks (seen ++ take l.net-index l.nets) l.looks
