use Rattle.std.proofs.Common.{◌≢◌, ◌<◌, List, length, ◌∙◌, arith, below_more, get_or-set_other, get_or-set_same}
use Rattle.campaign_plan.specs.declared.Outcome.{Outcome}
use Rattle.classifier.proofs.outcome.forget.Goals as goal

pub loop-word-preserved : goal.loop-word-preserved
loop-word-preserved c =
    let i = c.loop-word.word in
    let outcomes : List Outcome = c.loop-word.outcomes in
    let none : Outcome = record { danger = 0; noticed = 0 } in
    let within : i < length outcomes = omega (arith, c.loop-word-test.true, c.loop-word.auto.outcomes) in
    below_more _ _
    (λ k before. let apart : k ≢ i = omega (arith, before) in get_or-set_other outcomes i k none none apart ∙ c.loop-word.invariant k before)
    (get_or-set_same outcomes i none none within)
