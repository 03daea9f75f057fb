use Rattle.std.proofs.lemmas.Result.{err_from_is_err_and}
use Rattle.fm_shelf.proofs.Sending.{sends_none, sends_more, sends_torn}
use Rattle.campaign_tables.specs.FaultSteps.{between_quotes}
use Rattle.campaign_tables.proofs.fields.write_bytes.Goals as goal

pub loop-byte-init : goal.loop-byte-init
loop-byte-init g c = sends_none _

pub loop-byte-preserved : goal.loop-byte-preserved
loop-byte-preserved g c =
    sends_more between_quotes c.args.piece.now c.loop-byte.byte-index _ c.loop-byte-test.true c.loop-byte.invariant c.in_ok-write_byte.ensures

pub returns-in_err-write_byte : goal.returns-in_err-write_byte
returns-in_err-write_byte g c =
    let p = err_from_is_err_and c.from_residual.result c.from_residual.ensures.1 in
    rw p.1 (sends_torn between_quotes c.args.piece.now c.loop-byte.byte-index _ c.loop-byte-test.true p.0 c.loop-byte.invariant c.in_err-write_byte.ensures)
