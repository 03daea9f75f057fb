use Rattle.std.proofs.lemmas.Result.{err_from_is_err_and}
use Rattle.fm_shelf.proofs.Sending.{sends_as, sends_stop, sends_then}
use Rattle.wave_dump.proofs.Writing.{cycle_is}
use Rattle.wave_dump.proofs.values.write_cycle.Goals as goal

pub returns-in_err-write_moment : goal.returns-in_err-write_moment
returns-in_err-write_moment g c =
    let p = err_from_is_err_and c.from_residual.result c.from_residual.ensures.1 in
    rw p.1 (sends_as (cycle_is c.args.scene.now c.args.t) (sends_stop _ p.0 c.in_err-write_moment.ensures))

pub returns : goal.returns
returns g c = sends_as (cycle_is c.args.scene.now c.args.t) (sends_then c.in_ok-write_moment.ensures c.write_scopes.ensures)
