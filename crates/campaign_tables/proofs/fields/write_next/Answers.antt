use Rattle.std.proofs.Common.{ap}
use Rattle.std.proofs.lemmas.Result.{err_from_is_err_and}
use Rattle.std.proofs.lemmas.List.{append-nil}
use Rattle.fm_shelf.proofs.Sending.{sends_as, sends_stop, sends_then}
use Rattle.campaign_tables.specs.Csv.{csv_field}
use Rattle.campaign_tables.proofs.fields.write_next.Goals as goal

pub returns-in_err-write_all : goal.returns-in_err-write_all
returns-in_err-write_all g c =
    let p = err_from_is_err_and c.from_residual.result c.from_residual.ensures.1 in
    let wrote = c.in_err-write_all.ensures in
    rw p.1 (sends_stop (csv_field c.args.field.now) p.0 wrote)

pub returns : goal.returns
returns g c =
    let begun = c.in_ok-write_all.ensures in
    sends_then begun
    (sends_as (ap csv_field (append-nil c.args.field.now)) c.write_field.ensures)
