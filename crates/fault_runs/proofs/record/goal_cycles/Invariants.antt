use Rattle.std.proofs.Common.{◌≡◌, ◌<◌, ℕ, length}
use Rattle.fault_runs.specs.Records.{goal_cycles}
use Rattle.fault_runs.proofs.record.goal_cycles.Given as goal

-- so many so far, each for these faults
abbrev pub invariant-loop : goal.invariant-loop
invariant-loop l = record {
  count : length l.goals.items ≡ l.counter;
  faults : (g : ℕ) → g < length l.goals.items → length (goal_cycles l.goals.items g).cycles ≡ l.faults;
}
