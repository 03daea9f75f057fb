use Rattle.std.proofs.Common.{◌≡◌, take}
use Rattle.std.specs.List.{flat_map}
use Rattle.alarm_points.specs.declared.Goal.{Goal}
use Rattle.always_answers.proofs.ask.observed_nets.Given as goal

-- the nets of the goals so far
abbrev pub invariant-loop-goal : goal.invariant-loop-goal
invariant-loop-goal l = l.nets.items ≡ flat_map (λ (goal : Goal). goal.observe) (take l.goal-index l.goal-items)
