use Rattle.std.proofs.Common.{◌≡◌, ◌<◌, ◌≤◌, ◌||◌, ◌∙◌, List, [], length, ap, ap₂, sym, arith, take_all}
use Rattle.std.specs.List.{list_any}
use Rattle.std.proofs.lemmas.List.{get_or_default}
use Rattle.std.proofs.lemmas.List.Folds.{list_any_more}
use Rattle.alarm_points.specs.Interval.{interval_of}
use Rattle.alarm_points.specs.declared.Goal.{Goal}
use Rattle.first_cycles.specs.FirstCycles.{comes_late}
use Rattle.fault_runs.specs.First.{FirstCycles, first_of}
use Rattle.fault_runs.specs.Records.{goal_cycles}
use Rattle.latency_table.proofs.shows.some_late.Goals as goal
use Rattle.testbench.specs.Points.{goal_at}

pub loop-g-preserved : goal.loop-g-preserved
loop-g-preserved c = λ difference same.
    let goals = c.args.goals.now in
    let i = c.loop-g.g in
    let lt : i < length goals = c.loop-g-test.true in
    let within : i < length c.args.kept.now = omega (arith, lt, c.requires.count) in
    let own : c.index-goals-g.result ≡ goal_at goals i = c.index-goals-g.is ∙ get_or_default goals i c.index-goals-g.result (goal_at [] 0) lt in
    ap₂ (λ a b. a || b) (c.loop-g.invariant difference same)
    (c.comes_late-late.ensures
    ∙ ap₂ (λ f d. comes_late f d c.args.alarm) (c.unwrap_or-interval.ensures ∙ ap (interval_of c.args.ftti) own)
    (c.first.ensures ∙ ap (λ (f : FirstCycles). first_of f c.args.fault) (c.index-kept-g.is ∙ get_or_default c.args.kept.now i c.index-kept-g.result (goal_cycles [] 0) within) ∙ same i lt))
    ∙ sym (list_any_more (λ (goal : Goal). comes_late (interval_of c.args.ftti goal) (difference goal) c.args.alarm) goals i (goal_at [] 0) lt)

pub returns : goal.returns
returns c = λ difference same.
    let done : length c.args.goals.now ≤ c.loop-g.g = c.loop-g-test.false in
    c.loop-g.invariant difference same
    ∙ ap (λ (goals : List Goal). list_any (λ goal. comes_late (interval_of c.args.ftti goal) (difference goal) c.args.alarm) goals) (take_all c.loop-g.g c.args.goals.now done)
