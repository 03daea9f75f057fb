use Rattle.std.proofs.Common.{◌∷◌, [], ap, ◌∙◌}
use Rattle.std.specs.Prelude.{codes, decimal}
use Rattle.fm_base.specs.Names.{Bytes}
use Rattle.fm_base.specs.Text.{line}
use Rattle.fm_shelf.proofs.Sending.{sends_as}
use Rattle.always.proofs.lines.write_assumed.Goals as goal

pub returns : goal.returns
returns g c =
    let from = c.bytes.ensures ∙ c.number_word.ensures ∙ ap decimal c.from.ensures in
    sends_as (ap (λ (word : Bytes). line (codes "assumes no alarm without a fault from cycle" ∷ word ∷ codes "on" ∷ [])) from) c.write_line.ensures
