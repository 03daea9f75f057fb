use Rattle.std.proofs.Common.{◌∷◌, ◌∙◌, []}
use Rattle.std.specs.Prelude.{codes}
use Rattle.refusals.proofs.Statuses.{words_said}
use Rattle.refusals.proofs.lines.refuse_incomplete.Goals as goal

pub returns : goal.returns
returns g c =
    let have = c.as_bytes.ensures.value ∙ c.format.ensures.text in
    let all = c.as_bytes-2.ensures.value ∙ c.format-2.ensures.text in
    words_said _ _ _ _ (λ j. codes "result file has" ∷ have j ∷ codes "of" ∷ all j ∷ codes "batches" ∷ []) c.say.ensures
