use Rattle.std.proofs.Common.{◌≡◌, ℕ, List, ◌++◌, map, take}
use Rattle.std.specs.Prelude.{flat_map}
use Rattle.circuit.specs.declared.parts.NetId.{NetId}
use Rattle.collapse_map.specs.Looks.{AreLooks}
use Rattle.collapse_map.proofs.looks.look_by_goals.Given as goal

abbrev pub invariant-loop-goal : goal.invariant-loop-goal
invariant-loop-goal l = (seen : List NetId) → AreLooks seen l.initial.looks → AreLooks (seen ++ flat_map (λ goal. goal.observe) (take l.goal-index l.goals)) l.looks
