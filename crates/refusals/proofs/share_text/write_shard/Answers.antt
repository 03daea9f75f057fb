use Rattle.std.proofs.Common.{◌∷◌, [], ap, ◌∙◌}
use Rattle.std.specs.Prelude.{codes, decimal}
use Rattle.fm_base.specs.Text.{line}
use Rattle.fm_shelf.proofs.Sending.{sends_as}
use Rattle.refusals.proofs.share_text.write_shard.Goals as goal

pub returns : goal.returns
returns g c =
    let part = c.bytes.ensures ∙ c.number_word.ensures ∙ ap decimal c.from.ensures in
    let parts = c.bytes-2.ensures ∙ c.number_word-2.ensures ∙ ap decimal c.from-2.ensures in
    let rows = c.bytes-3.ensures ∙ c.number_word-3.ensures ∙ ap decimal c.from-3.ensures in
    sends_as (λ j. line (codes "shard" ∷ part j ∷ codes "of" ∷ parts j ∷ codes "rows" ∷ rows j ∷ [])) c.write_line.ensures
