use Rattle.std.proofs.Common.{◌≤◌, List, length, map, ap, ap₂, ◌∙◌, take_all}
use Rattle.first_cycles.specs.Shown.{longer, longest, needed}
use Rattle.fault_runs.specs.First.{FirstCycles, first_of}
use Rattle.latency_table.proofs.Lists.{longest_more}
use Rattle.latency_table.proofs.shows.longest_needed.Goals as goal

pub loop-goal-preserved : goal.loop-goal-preserved
loop-goal-preserved c =
    c.longer-interval.ensures ∙ ap₂ longer c.loop-goal.invariant (c.needed.ensures ∙ ap (λ d. needed d c.args.alarm) (c.first.ensures ∙ ap (λ (f : FirstCycles). first_of f c.args.fault) c.goal-item.is))
    ∙ longest_more (λ (goal : FirstCycles). needed (first_of goal c.args.fault) c.args.alarm) c.args.goals.now c.loop-goal.goal-index c.goal-item.result c.loop-goal-test.true

pub returns : goal.returns
returns c =
    let done : length c.args.goals.now ≤ c.loop-goal.goal-index = c.loop-goal-test.false in
    c.loop-goal.invariant
    ∙ ap (λ (goals : List FirstCycles). longest (map (λ goal. needed (first_of goal c.args.fault) c.args.alarm) goals)) (take_all c.loop-goal.goal-index c.args.goals.now done)
