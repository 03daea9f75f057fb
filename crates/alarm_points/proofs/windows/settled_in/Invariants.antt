use Rattle.std.proofs.Common.{◌≡◌, ℕ, get_or}
use Rattle.fm_base.specs.Lists.{some_below}
use Rattle.fm_base.specs.Planes.{bit}
use Rattle.alarm_points.specs.Watch.{Watch}
use Rattle.alarm_points.proofs.windows.settled_in.Given as goal

-- the lanes that are settled for some goal so far
abbrev pub invariant-loop-window : goal.invariant-loop-window
invariant-loop-window l =
    (none : Watch) (k : ℕ) → bit l.settled k ≡ some_below l.window-index (λ g. bit (get_or l.windows g none).settled k)
