use Rattle.std.proofs.Common.{◌≡◌, ◌<◌, ℕ, List, length, ap, subst, ◌∙◌}
use Rattle.std.specs.List.{list_any}
use Rattle.alarm_points.specs.Interval.{interval_of}
use Rattle.alarm_points.specs.declared.Goal.{Goal}
use Rattle.first_cycles.specs.FirstCycles.{comes_late}
use Rattle.fault_runs.specs.First.{FirstCycles, first_of}
use Rattle.fault_runs.specs.Records.{goal_cycles}
use Rattle.latency_table.proofs.shows.mission_shows.Goals as goal
use Rattle.testbench.specs.Points.{goal_at}

pub returns-clause-late : goal.returns-clause-late
returns-clause-late c = λ difference same.
    subst (λ (goals : List Goal).
    ((g : ℕ) → g < length goals → first_of (goal_cycles c.goals.result.now g) c.args.fault ≡ difference (goal_at goals g))
    → c.some_late.result ≡ list_any (λ goal. comes_late (interval_of c.args.ftti goal) (difference goal) c.args.alarm) goals) c.as_slice-goals.ensures (c.some_late.ensures difference)
    (λ g lt. ap (λ (goals : List FirstCycles). first_of (goal_cycles goals g) c.args.fault) c.goals.ensures ∙ same g lt)
