use Rattle.std.proofs.Common.{◌∷◌, [], ap, ◌∙◌}
use Rattle.std.specs.Prelude.{codes, decimal}
use Rattle.fm_base.specs.Text.{line}
use Rattle.fm_shelf.proofs.Sending.{sends_as}
use Rattle.refusals.proofs.check_text.write_rates.Goals as goal

pub returns : goal.returns
returns g c =
    let parts = c.bytes.ensures ∙ c.number_word.ensures ∙ ap decimal (c.from.ensures ∙ c.parts.ensures.count) in
    let units = c.bytes-2.ensures ∙ c.number_word-2.ensures ∙ ap decimal c.units.ensures in
    sends_as (λ j. line (codes "rates parts" ∷ parts j ∷ codes "units" ∷ units j ∷ [])) c.write_line.ensures
