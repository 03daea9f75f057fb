use Rattle.std.proofs.Common.{◌++◌, ◌∷◌, []}
use Rattle.std.specs.List.{flat_map}
use Rattle.std.proofs.lemmas.Result.{err_from_is_err_and}
use Rattle.fm_shelf.proofs.Sending.{sends_stop, sends_then}
use Rattle.refusals.specs.Said.{spaced_net}
use Rattle.refusals.proofs.walk.write_walk.Goals as goal

pub returns-in_err-write_all : goal.returns-in_err-write_all
returns-in_err-write_all g c =
    let p = err_from_is_err_and c.from_residual.result c.from_residual.ensures.1 in
    rw p.1 (sends_stop (flat_map (spaced_net c.args.nets.now) c.args.walk.now ++ 10 ∷ []) p.0 c.in_err-write_all.ensures)

pub returns-in_err-write_nets : goal.returns-in_err-write_nets
returns-in_err-write_nets g c =
    let p = err_from_is_err_and c.from_residual-in_err-write_nets.result c.from_residual-in_err-write_nets.ensures.1 in
    rw p.1 (sends_then c.in_ok-write_all.ensures (sends_stop (10 ∷ []) p.0 c.in_err-write_nets.ensures))

pub returns : goal.returns
returns g c = sends_then c.in_ok-write_all.ensures (sends_then c.in_ok-write_nets.ensures c.write_all-2.ensures)
