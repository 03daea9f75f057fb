use Rattle.std.proofs.Common.{◌≡◌, ◌<◌, ℕ, [], get_or, map}
use Rattle.alarm_points.specs.Watch.{IsAfterPairs, Watch}
use Rattle.alarm_points.proofs.windows.start_all.Given as goal

-- the windows so far have started, and all keep their intervals
abbrev pub invariant-loop-i : goal.invariant-loop-i
invariant-loop-i l =
    (map (λ (w : Watch). w.ftti) l.windows ≡ map (λ (w : Watch). w.ftti) l.initial.windows)
    × ((g : ℕ) (none : Watch) → g < l.i → IsAfterPairs [] (get_or l.windows g none))
