use Rattle.std.proofs.Common.{◌∷◌, []}
use Rattle.std.proofs.lemmas.Result.{err_from_is_err_and}
use Rattle.fm_shelf.proofs.Sending.{sends_stop, sends_then}
use Rattle.campaign_tables.proofs.Quoting.{within}
use Rattle.campaign_tables.proofs.fields.write_quoted.Goals as goal

pub returns-in_err-write_all : goal.returns-in_err-write_all
returns-in_err-write_all g c =
    let p = err_from_is_err_and c.from_residual.result c.from_residual.ensures.1 in
    let wrote = c.in_err-write_all.ensures in
    rw p.1 (sends_stop (34 ∷ []) p.0 (sends_stop (within c.args.pieces.now) p.0
    wrote))

pub returns-in_err-write_within : goal.returns-in_err-write_within
returns-in_err-write_within g c =
    let p = err_from_is_err_and c.from_residual-in_err-write_within.result c.from_residual-in_err-write_within.ensures.1 in
    let begun = c.in_ok-write_all.ensures in
    rw p.1 (sends_stop (34 ∷ []) p.0 (sends_then begun c.in_err-write_within.ensures))

pub returns : goal.returns
returns g c =
    let begun = c.in_ok-write_all.ensures in
    let wrote = c.write_all-2.ensures in
    sends_then (sends_then begun c.in_ok-write_within.ensures)
    wrote
