use Rattle.std.proofs.Common.{◌∷◌, [], ap, ◌∙◌}
use Rattle.std.specs.Prelude.{codes, decimal}
use Rattle.fm_base.specs.Text.{line}
use Rattle.fm_shelf.proofs.Sending.{sends_as}
use Rattle.refusals.proofs.share_text.write_rows.Goals as goal

pub returns : goal.returns
returns g c =
    let rows = c.bytes.ensures ∙ c.number_word.ensures in
    let batches = c.bytes-2.ensures ∙ c.number_word-2.ensures ∙ ap decimal c.from.ensures in
    sends_as (λ j. line (c.args.word.now ∷ rows j ∷ codes "of" ∷ batches j ∷ codes "rows" ∷ [])) c.write_line.ensures
