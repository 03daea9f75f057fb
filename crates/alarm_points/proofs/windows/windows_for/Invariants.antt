use Rattle.std.proofs.Common.{◌≡◌, [], map, take}
use Rattle.std.specs.List.{All}
use Rattle.alarm_points.specs.Interval.{interval_of}
use Rattle.alarm_points.specs.Watch.{Watch, IsAfterPairs}
use Rattle.alarm_points.proofs.windows.windows_for.Given as goal

-- there is a window for each goal so far, at its start
abbrev pub invariant-loop-goal : goal.invariant-loop-goal
invariant-loop-goal l =
    (map (λ (w : Watch). w.ftti) l.windows.items ≡ map (interval_of l.ftti) (take l.goal-index l.goals))
    × All (IsAfterPairs []) l.windows.items
