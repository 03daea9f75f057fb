use Rattle.std.proofs.Common.{◌≡◌, ◌<◌, ℕ, [], Option, None, length, take, get_or}
use Rattle.std.specs.List.{list_any}
use Rattle.alarm_points.specs.Interval.{interval_of}
use Rattle.alarm_points.specs.declared.Goal.{Goal}
use Rattle.first_cycles.specs.FirstCycles.{comes_late}
use Rattle.first_cycles.proofs.late.some_goal_comes_late.Given as goal

-- whether that of some goal so far does
abbrev pub invariant-loop-g : goal.invariant-loop-g
invariant-loop-g l =
    (difference : Goal → Option ℕ) → ((g : ℕ) → g < length l.goals → get_or l.differences g None ≡ difference (get_or l.goals g (record { name = []; ftti = None; observe = [] })))
    → l.late ≡ list_any (λ goal. comes_late (interval_of l.ftti goal) (difference goal) l.alarm) (take l.g l.goals)
