use Rattle.std.proofs.Common.{◌≡◌, ◌<◌, ◌≤◌, ◌||◌, ◌∙◌, ℕ, List, [], Option, None, length, take, get_or, ap, ap₂, sym, arith, take_all}
use Rattle.std.specs.List.{list_any}
use Rattle.std.proofs.lemmas.List.{get_or_default}
use Rattle.std.proofs.lemmas.List.Folds.{list_any_more}
use Rattle.alarm_points.specs.Interval.{interval_of}
use Rattle.alarm_points.specs.declared.Goal.{Goal}
use Rattle.first_cycles.specs.FirstCycles.{comes_late}
use Rattle.first_cycles.proofs.late.some_goal_comes_late.Goals as goal

pub loop-g-preserved : goal.loop-g-preserved
loop-g-preserved c = λ difference same.
    let goals = c.args.goals.now in
    let i = c.loop-g.g in
    let none : Goal = record { name = []; ftti = None; observe = [] } in
    let lt : i < length goals = c.loop-g-test.true in
    let own : c.index-goals-g.result ≡ get_or goals i none = c.index-goals-g.is ∙ get_or_default goals i c.index-goals-g.result none lt in
    ap₂ (λ a b. a || b) (c.loop-g.invariant difference same)
    (c.comes_late-late.ensures
    ∙ ap₂ (λ f d. comes_late f d c.args.alarm) (c.interval.ensures ∙ ap (interval_of c.args.ftti) own) (same i lt))
    ∙ sym (list_any_more (λ (goal : Goal). comes_late (interval_of c.args.ftti goal) (difference goal) c.args.alarm) goals i none lt)

pub returns : goal.returns
returns c = λ difference same.
    let done : length c.args.goals.now ≤ c.loop-g.g = c.loop-g-test.false in
    c.loop-g.invariant difference same
    ∙ ap (λ (goals : List Goal). list_any (λ goal. comes_late (interval_of c.args.ftti goal) (difference goal) c.args.alarm) goals) (take_all c.loop-g.g c.args.goals.now done)
