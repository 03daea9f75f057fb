use Rattle.std.proofs.Common.{◌≢◌, ◌<◌, ℕ, List, [], Option, None, length, ap, ◌∙◌, arith, below_more, get_or-set_other, get_or-set_same}
use Rattle.std.proofs.lemmas.List.{get_or_default}
use Rattle.fault_runs.specs.First.{FirstCycles, first_of}
use Rattle.fault_runs.specs.Records.{goal_cycles}
use Rattle.reading_planes.proofs.cycles.take_differences.Goals as goal

pub loop-g-preserved : goal.loop-g-preserved
loop-g-preserved c =
    let i = c.loop-g.g in
    let taken : List (Option ℕ) = c.loop-g.differences in
    let new : Option ℕ = c.first.result in
    let within : i < length taken = omega (arith, c.loop-g-test.true, c.loop-g.auto.differences, c.requires) in
    below_more _ _
    (λ h before. let apart : h ≢ i = omega (arith, before) in get_or-set_other taken i h new None apart ∙ c.loop-g.invariant h before)
    (get_or-set_same taken i new None within ∙ c.first.ensures
    ∙ ap (λ (f : FirstCycles). first_of f c.args.fault) (c.index-goals-g.is ∙ get_or_default c.args.goals.now i c.index-goals-g.result (goal_cycles [] 0) c.loop-g-test.true))
