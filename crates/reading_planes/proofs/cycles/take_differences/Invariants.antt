use Rattle.std.proofs.Common.{◌≡◌, ◌<◌, ℕ, None, get_or}
use Rattle.fault_runs.specs.First.{first_of}
use Rattle.fault_runs.specs.Records.{goal_cycles}
use Rattle.reading_planes.proofs.cycles.take_differences.Given as goal

-- those of the goals so far are taken
abbrev pub invariant-loop-g : goal.invariant-loop-g
invariant-loop-g l = (h : ℕ) → h < l.g → get_or l.differences h None ≡ first_of (goal_cycles l.goals h) l.fault
