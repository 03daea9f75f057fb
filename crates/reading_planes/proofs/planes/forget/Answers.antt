use Rattle.std.proofs.Common.{◌≢◌, ◌<◌, List, length, ◌∙◌, arith, below_more, get_or-set_other, get_or-set_same}
use Rattle.campaign_plan.specs.declared.Outcome.{Outcome}
use Rattle.reading_planes.proofs.planes.forget.Goals as goal

pub loop-r-preserved : goal.loop-r-preserved
loop-r-preserved c =
    let i = c.loop-r.r in
    let outcomes : List Outcome = c.loop-r.outcomes in
    let none : Outcome = record { danger = 0; noticed = 0 } in
    let within : i < length outcomes = omega (arith, c.loop-r-test.true, c.loop-r.auto.outcomes) in
    below_more _ _
    (λ k before. let apart : k ≢ i = omega (arith, before) in get_or-set_other outcomes i k none none apart ∙ c.loop-r.invariant k before)
    (get_or-set_same outcomes i none none within)
