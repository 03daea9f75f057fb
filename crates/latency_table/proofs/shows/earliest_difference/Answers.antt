use Rattle.std.proofs.Common.{◌≤◌, List, length, map, ap, ap₂, ◌∙◌, take_all}
use Rattle.first_cycles.specs.FirstCycles.{earlier, earliest}
use Rattle.fault_runs.specs.First.{FirstCycles, first_of}
use Rattle.latency_table.proofs.Lists.{earliest_more}
use Rattle.latency_table.proofs.shows.earliest_difference.Goals as goal

pub loop-goal-preserved : goal.loop-goal-preserved
loop-goal-preserved c =
    c.earlier-first.ensures ∙ ap₂ earlier c.loop-goal.invariant (c.first.ensures ∙ ap (λ (f : FirstCycles). first_of f c.args.fault) c.goal-item.is)
    ∙ earliest_more (λ (goal : FirstCycles). first_of goal c.args.fault) c.args.goals.now c.loop-goal.goal-index c.goal-item.result c.loop-goal-test.true

pub returns : goal.returns
returns c =
    let done : length c.args.goals.now ≤ c.loop-goal.goal-index = c.loop-goal-test.false in
    c.loop-goal.invariant
    ∙ ap (λ (goals : List FirstCycles). earliest (map (λ goal. first_of goal c.args.fault) goals)) (take_all c.loop-goal.goal-index c.args.goals.now done)
