use Rattle.std.proofs.Common.{◌++◌, ◌∙◌, ap}
use Rattle.std.specs.Prelude.{decimal}
use Rattle.std.proofs.lemmas.List.{append-nil}
use Rattle.fm_shelf.proofs.Sending.{sends_as}
use Rattle.campaign_tables.specs.Csv.{csv_field}
use Rattle.campaign_tables.proofs.row.write_cycle.Goals as goal

pub returns : goal.returns
returns g c =
    let digits = append-nil c.bytes.result.now ∙ c.bytes.ensures ∙ c.number_word.ensures ∙ ap decimal c.from.ensures in
    sends_as (ap (λ text. csv_field (c.args.name.now ++ (c.args.sign.now ++ text))) digits) c.write_field.ensures
