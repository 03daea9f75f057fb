use Rattle.std.proofs.Common.{◌∷◌, ◌∙◌, []}
use Rattle.std.specs.Prelude.{codes}
use Rattle.refusals.proofs.Statuses.{words_said}
use Rattle.refusals.proofs.lines.refuse_window.Goals as goal

pub returns : goal.returns
returns g c =
    let window = c.as_bytes.ensures.value ∙ c.format.ensures.text in
    let least = c.as_bytes-2.ensures.value ∙ c.format-2.ensures.text in
    words_said _ _ _ _ (λ j. codes "window" ∷ window j ∷ codes "is longer than the shortest interval," ∷ least j ∷ []) c.say.ensures
