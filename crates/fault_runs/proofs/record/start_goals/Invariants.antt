use Rattle.std.proofs.Common.{◌≡◌, ◌<◌, ℕ, length, None}
use Rattle.fault_runs.specs.First.{first_of}
use Rattle.fault_runs.specs.Records.{goal_cycles}
use Rattle.fault_runs.proofs.record.start_goals.Given as goal

-- the goals so far have seen nothing
abbrev pub invariant-loop-goal : goal.invariant-loop-goal
invariant-loop-goal l = record {
  count : (g : ℕ) → length (goal_cycles l.goals g).cycles ≡ length (goal_cycles l.initial.goals g).cycles;
  nothing : (g i : ℕ) → g < l.goal-index → first_of (goal_cycles l.goals g) i ≡ None;
}
