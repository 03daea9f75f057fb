use Rattle.std.proofs.Common.{◌≡◌, take}
use Rattle.refusals.proofs.CheckText.{points_of}
use Rattle.refusals.proofs.check_text.observation_points.Given as goal

abbrev pub invariant-loop-goal : goal.invariant-loop-goal
invariant-loop-goal l = l.count ≡ points_of (take l.goal-index l.goals)
