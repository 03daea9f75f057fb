use Rattle.std.proofs.lemmas.Result.{err_from_is_err_and}
use Rattle.fm_shelf.proofs.Sending.{sends_none, sends_more, sends_torn}
use Rattle.campaign_tables.proofs.Quoting.{next_field}
use Rattle.campaign_tables.proofs.fields.write_fields.Goals as goal

pub loop-field-init : goal.loop-field-init
loop-field-init g c = sends_none _

pub loop-field-preserved : goal.loop-field-preserved
loop-field-preserved g c =
    sends_more next_field c.args.fields.now c.loop-field.field-index _ c.loop-field-test.true c.loop-field.invariant c.in_ok-write_next.ensures

pub returns-in_err-write_next : goal.returns-in_err-write_next
returns-in_err-write_next g c =
    let p = err_from_is_err_and c.from_residual.result c.from_residual.ensures.1 in
    rw p.1 (sends_torn next_field c.args.fields.now c.loop-field.field-index _ c.loop-field-test.true p.0 c.loop-field.invariant c.in_err-write_next.ensures)
