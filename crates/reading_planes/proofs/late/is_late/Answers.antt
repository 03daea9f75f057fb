use Rattle.std.proofs.Common.{◌≡◌, ◌<◌, ℕ, List, Option, None, length, get_or, sym, ◌∙◌, subst}
use Rattle.std.specs.List.{list_any}
use Rattle.alarm_points.specs.Interval.{interval_of}
use Rattle.alarm_points.specs.declared.Goal.{Goal}
use Rattle.first_cycles.specs.FirstCycles.{comes_late}
use Rattle.reading_planes.specs.Readings.{points_by}
use Rattle.reading_planes.proofs.Shows.{differences_are}
use Rattle.reading_planes.proofs.late.is_late.Goals as goal
use Rattle.testbench.specs.Points.{goal_at}

pub returns : goal.returns
returns c = λ s of.
    let points = c.args.points.now in
    let own = c.goals_of-goals.result.now in
    let taken = c.differences_of-differences.result.now in
    let goals = (points_by points c.args.reading).goals in
    let each : (g : ℕ) → g < length own → get_or taken g None ≡ s.difference (goal_at own g) =
    subst (λ (gs : List Goal). (g : ℕ) → g < length gs → get_or taken g None ≡ s.difference (goal_at gs g)) (sym c.goals_of-goals.ensures)
    (subst (λ (ds : List (Option ℕ)). (g : ℕ) → g < length goals → get_or ds g None ≡ s.difference (goal_at goals g)) (sym c.differences_of-differences.ensures)
    (differences_are points s c.args.cycles.now c.args.reading c.requires.reading of)) in
    c.some_goal_comes_late.ensures s.difference each
    ∙ (λ i. list_any (λ goal. comes_late (interval_of (c.interval_of.ensures i) goal) (s.difference goal) (c.first_alarm-alarm.ensures s of i)) (c.goals_of-goals.ensures i))
