use Rattle.std.proofs.Common.{◌≡◌, ◌<◌, ℕ, Option, length, take}
use Rattle.std.specs.List.{list_any}
use Rattle.alarm_points.specs.Interval.{interval_of}
use Rattle.alarm_points.specs.declared.Goal.{Goal}
use Rattle.first_cycles.specs.FirstCycles.{comes_late}
use Rattle.fault_runs.specs.First.{first_of}
use Rattle.fault_runs.specs.Records.{goal_cycles}
use Rattle.latency_table.proofs.shows.some_late.Given as goal
use Rattle.testbench.specs.Points.{goal_at}

-- whether that of some goal so far does
abbrev pub invariant-loop-g : goal.invariant-loop-g
invariant-loop-g l =
    (difference : Goal → Option ℕ) → ((g : ℕ) → g < length l.goals → first_of (goal_cycles l.kept g) l.fault ≡ difference (goal_at l.goals g))
    → l.late ≡ list_any (λ goal. comes_late (interval_of l.ftti goal) (difference goal) l.alarm) (take l.g l.goals)
