use Rattle.std.proofs.Common.{◌≡◌, ◌<◌, ℕ, List, length, get_or}
use Rattle.fm_base.specs.Lists.{some_below}
use Rattle.fm_base.specs.Planes.{bit}
use Rattle.alarm_points.specs.Watch.{IsAfterPairs, Pair, Watch, lane_goes_unalarmed}
use Rattle.alarm_points.proofs.windows.unalarmed_in.Given as goal

-- the lanes that go unalarmed for some goal so far
abbrev pub invariant-loop-window : goal.invariant-loop-window
invariant-loop-window l =
    (none : Watch) (pairs : ℕ → List Pair) (k : ℕ) → ((g : ℕ) → g < length l.windows → IsAfterPairs (pairs g) (get_or l.windows g none)) → k < 64
    → bit l.unalarmed k ≡ some_below l.window-index (λ g. lane_goes_unalarmed (get_or l.windows g none).ftti (pairs g) k)
