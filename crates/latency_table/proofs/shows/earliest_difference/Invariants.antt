use Rattle.std.proofs.Common.{◌≡◌, map, take}
use Rattle.first_cycles.specs.FirstCycles.{earliest}
use Rattle.fault_runs.specs.First.{first_of}
use Rattle.latency_table.proofs.shows.earliest_difference.Given as goal

-- that of the goals so far
abbrev pub invariant-loop-goal : goal.invariant-loop-goal
invariant-loop-goal l = l.first ≡ earliest (map (λ goal. first_of goal l.fault) (take l.goal-index l.goals))
