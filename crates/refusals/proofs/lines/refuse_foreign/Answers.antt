use Rattle.std.proofs.Common.{◌∷◌, ◌++◌, ◌∙◌, [], ap, map, take}
use Rattle.std.specs.Prelude.{codes}
use Rattle.refusals.specs.Steps.{shown_byte}
use Rattle.refusals.proofs.Statuses.{words_said}
use Rattle.refusals.proofs.lines.refuse_foreign.Goals as goal

pub returns : goal.returns
returns g c =
    let head = c.shown_head-shown.ensures.text ∙ ap (λ t. map shown_byte (take 88 t)) c.first_line.ensures in
    let shown = c.bytes.ensures ∙ c.put.ensures.bytes ∙ ap (λ t. t ++ 44 ∷ []) head in
    words_said _ _ _ _ (λ j. codes "foreign result file, found" ∷ shown j ∷ codes "own" ∷ c.first_bytes.ensures.text j ∷ []) c.say.ensures
