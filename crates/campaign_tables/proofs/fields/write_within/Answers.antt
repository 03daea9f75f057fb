use Rattle.std.proofs.lemmas.Result.{err_from_is_err_and}
use Rattle.fm_shelf.proofs.Sending.{sends_none, sends_more, sends_torn}
use Rattle.campaign_tables.proofs.Quoting.{quoted_piece}
use Rattle.campaign_tables.proofs.fields.write_within.Goals as goal

pub loop-piece-init : goal.loop-piece-init
loop-piece-init g c = sends_none _

pub loop-piece-preserved : goal.loop-piece-preserved
loop-piece-preserved g c =
    sends_more quoted_piece c.args.pieces.now c.loop-piece.piece-index _ c.loop-piece-test.true c.loop-piece.invariant c.in_ok-write_bytes.ensures

pub returns-in_err-write_bytes : goal.returns-in_err-write_bytes
returns-in_err-write_bytes g c =
    let p = err_from_is_err_and c.from_residual.result c.from_residual.ensures.1 in
    rw p.1 (sends_torn quoted_piece c.args.pieces.now c.loop-piece.piece-index _ c.loop-piece-test.true p.0 c.loop-piece.invariant c.in_err-write_bytes.ensures)
