use Rattle.std.proofs.Common.{◌≡◌, ℕ, List, ◌++◌, map, take}
use Rattle.std.specs.Prelude.{flat_map}
use Rattle.circuit.specs.declared.parts.NetId.{NetId}
use Rattle.collapse_map.specs.Looks.{AreLooks}
use Rattle.collapse_map.proofs.looks.look_by_tables.Given as goal

abbrev pub invariant-loop-k : goal.invariant-loop-k
invariant-loop-k l = (seen : List NetId) → AreLooks seen l.initial.looks → AreLooks (seen ++ flat_map (λ table. table.ins) (take l.k l.net.tables)) l.looks
