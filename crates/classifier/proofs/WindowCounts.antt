-- How many windows there are.
use Rattle.std.proofs.Common.{◌≡◌, ◌<◌, ℕ, List, [], length, get_or, ap, sym, ◌∙◌, subst}
use Rattle.std.proofs.lemmas.List.{get_or-map, length-map}
use Rattle.alarm_points.specs.declared.Points.{Points}
use Rattle.alarm_points.specs.Interval.{interval_of}
use Rattle.alarm_points.specs.Watch.{AreMadeFor, KeepsIntervals, Watch, Watches, no_watch, window_at}
use Rattle.testbench.specs.Points.{goal_at}

-- windows that keep their intervals are as many as before
pub same_count : (old new : Watches) → KeepsIntervals old new → length new.windows ≡ length old.windows
same_count old new keeps =
    sym (length-map new.windows (λ (w : Watch). w.ftti)) ∙ ap (λ (ns : List ℕ). length ns) keeps.intervals ∙ length-map old.windows (λ (w : Watch). w.ftti)

-- there is a window for each goal
pub window_count : (points : Points) (ws : Watches) → AreMadeFor points ws → length ws.windows ≡ length points.goals
window_count points ws made =
    sym (length-map ws.windows (λ (w : Watch). w.ftti)) ∙ ap (λ (ns : List ℕ). length ns) made ∙ length-map points.goals (interval_of ws.ftti)

-- the interval of a goal's window
pub interval_at : (points : Points) (ws : Watches) (g : ℕ) → AreMadeFor points ws → g < length points.goals
    → (window_at ws g).ftti ≡ interval_of ws.ftti (goal_at points.goals g)
interval_at points ws g made within =
    let lt : g < length ws.windows = subst (λ n. g < n) (sym (window_count points ws made)) within in
    sym (get_or-map (λ (w : Watch). w.ftti) ws.windows g no_watch 0 lt)
    ∙ ap (λ (ns : List ℕ). get_or ns g 0) made
    ∙ get_or-map (interval_of ws.ftti) points.goals g (goal_at [] g) 0 within
