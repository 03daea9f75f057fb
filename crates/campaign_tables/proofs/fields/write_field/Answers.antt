use Rattle.std.proofs.Common.{◌∙◌, sym}
use Rattle.fm_shelf.proofs.Sending.{sends_as}
use Rattle.campaign_tables.proofs.Quoting.{field_plain, field_quoted}
use Rattle.campaign_tables.proofs.fields.write_field.Goals as goal

pub returns-then-is_quoted : goal.returns-then-is_quoted
returns-then-is_quoted g c = sends_as (field_quoted c.args.pieces.now (sym c.is_quoted.ensures ∙ c.if-is_quoted.true)) c.write_quoted.ensures

pub returns-else-is_quoted : goal.returns-else-is_quoted
returns-else-is_quoted g c =
    let wrote = c.write_pieces.ensures in
    sends_as (field_plain c.args.pieces.now (sym c.is_quoted.ensures ∙ c.if-is_quoted.false))
    wrote
