-- The observation points of all goals are nets.
use Rattle.std.proofs.Common.{List, [], ◌∷◌, arith}
use Rattle.std.specs.List.{All, flat_map}
use Rattle.std.proofs.lemmas.List.Elements.{All-append, All-head, All-tail}
use Rattle.circuit.specs.Circuit.{Circuit}
use Rattle.circuit.specs.Sound.{IsNet}
use Rattle.alarm_points.specs.declared.Goal.{Goal}
use Rattle.alarm_points.specs.PointsKept.{IsGoalFor}

pub observed_are_nets : (c : Circuit) (goals : List Goal) → All (IsGoalFor c) goals → All (IsNet c) (flat_map (λ (goal : Goal). goal.observe) goals)
observed_are_nets c [] all = λ i d lt. absurd (omega arith)
observed_are_nets c (goal ∷ goals) all =
    All-append (IsNet c) goal.observe (flat_map (λ (own : Goal). own.observe) goals) (All-head (IsGoalFor c) goal goals all).nets
    (observed_are_nets c goals (All-tail (IsGoalFor c) goal goals all))
