use Rattle.std.proofs.Common.{◌≡◌, ◌<◌, ℕ, List}
use Rattle.fault_runs.specs.Records.{IsGoalKnown, goal_cycles}
use Rattle.fault_runs.proofs.record.begin_goals.Given as goal

-- the group has begun at the goals so far
abbrev pub invariant-loop-goal : goal.invariant-loop-goal
invariant-loop-goal l = record {
  same : (g : ℕ) → (goal_cycles l.goals g).cycles ≡ (goal_cycles l.initial.goals g).cycles;
  known : (group : List ℕ) (g : ℕ) → g < l.goal-index → IsGoalKnown group (goal_cycles l.goals g);
}
