use Rattle.std.proofs.Common.{◌∷◌, [], ap, ◌∙◌}
use Rattle.std.specs.Prelude.{codes}
use Rattle.fm_base.specs.Text.{line}
use Rattle.fmeda_report.specs.Words.{fraction_word}
use Rattle.fm_shelf.proofs.Sending.{sends_as}
use Rattle.metric_coverage.proofs.lines.write_classes.Goals as goal

pub returns : goal.returns
returns g c =
    let rate = c.bytes.ensures ∙ c.number_word.ensures in
    let harm = c.bytes-2.ensures ∙ c.number_word-2.ensures in
    let detected = c.bytes-3.ensures ∙ c.number_word-3.ensures in
    let latent = c.bytes-4.ensures ∙ c.number_word-4.ensures in
    let coverage = c.bytes-5.ensures ∙ c.fraction_word.ensures ∙ ap fraction_word c.coverage.ensures in
    sends_as
    (λ j. line (
    codes "part" ∷ c.as_slice.ensures j ∷ c.role_of.ensures j ∷ codes "latent" ∷ codes "rate" ∷ rate j ∷ codes "harm" ∷ harm j ∷ codes "detected" ∷ detected j
    ∷ codes "latent" ∷ latent j ∷ codes "coverage" ∷ coverage j ∷ []))
    c.write_line.ensures
