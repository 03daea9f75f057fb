use Rattle.std.proofs.Common.{◌≡◌, map, take}
use Rattle.first_cycles.specs.Shown.{longest, needed}
use Rattle.fault_runs.specs.First.{first_of}
use Rattle.latency_table.proofs.shows.longest_needed.Given as goal

-- that of the goals so far
abbrev pub invariant-loop-goal : goal.invariant-loop-goal
invariant-loop-goal l = l.interval ≡ longest (map (λ goal. needed (first_of goal l.fault) l.alarm) (take l.goal-index l.goals))
