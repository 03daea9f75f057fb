use Rattle.std.proofs.Common.{◌≡◌, ℕ, List, ◌++◌, map, take}
use Rattle.std.specs.Prelude.{flat_map}
use Rattle.circuit.specs.declared.parts.NetId.{NetId}
use Rattle.collapse_map.specs.Looks.{AreLooks}
use Rattle.collapse_map.proofs.looks.look_by_latches.Given as goal

abbrev pub invariant-loop-latch : goal.invariant-loop-latch
invariant-loop-latch l = (seen : List NetId) → AreLooks seen l.initial.looks → AreLooks (seen ++ map (λ latch. latch.from) (take l.latch-index l.latches)) l.looks
