use Rattle.std.proofs.Common.{ap}
use Rattle.std.proofs.lemmas.Result.{err_from_is_err_and}
use Rattle.fm_shelf.proofs.Sending.{sends_as, sends_stop, sends_then}
use Rattle.workload.specs.Runs.{cycles_of}
use Rattle.wave_dump.specs.Dump.{moment}
use Rattle.wave_dump.proofs.Writing.{dump_is}
use Rattle.wave_dump.proofs.dump.write_parts.Goals as goal

pub returns-in_err-write_all-clause-sends : goal.returns-in_err-write_all-clause-sends
returns-in_err-write_all-clause-sends g c =
    let p = err_from_is_err_and c.from_residual.result c.from_residual.ensures.1 in
    rw p.1 (sends_as (dump_is c.args.scene.now) (sends_stop _ p.0 c.in_err-write_all.ensures))

pub returns-in_err-write_scopes-clause-sends : goal.returns-in_err-write_scopes-clause-sends
returns-in_err-write_scopes-clause-sends g c =
    let p = err_from_is_err_and c.from_residual-in_err-write_scopes.result c.from_residual-in_err-write_scopes.ensures.1 in
    rw p.1 (sends_as (dump_is c.args.scene.now) (sends_then c.in_ok-write_all.ensures (sends_stop _ p.0 c.in_err-write_scopes.ensures)))

pub returns-in_err-write_all-2-clause-sends : goal.returns-in_err-write_all-2-clause-sends
returns-in_err-write_all-2-clause-sends g c =
    let p = err_from_is_err_and c.from_residual-in_err-write_all-2.result c.from_residual-in_err-write_all-2.ensures.1 in
    rw p.1 (sends_as (dump_is c.args.scene.now)
    (sends_then c.in_ok-write_all.ensures (sends_then c.in_ok-write_scopes.ensures (sends_stop _ p.0 c.in_err-write_all-2.ensures))))

pub returns-in_err-write_cycles-clause-sends : goal.returns-in_err-write_cycles-clause-sends
returns-in_err-write_cycles-clause-sends g c =
    let w = c.args.scene.now in
    let p = err_from_is_err_and c.from_residual-in_err-write_cycles.result c.from_residual-in_err-write_cycles.ensures.1 in
    rw p.1 (sends_as (dump_is w)
    (sends_then c.in_ok-write_all.ensures (sends_then c.in_ok-write_scopes.ensures
    (sends_then c.in_ok-write_all-2.ensures (sends_stop (moment (cycles_of w.run)) p.0 c.in_err-write_cycles.ensures.sends)))))

pub returns-clause-sends : goal.returns-clause-sends
returns-clause-sends g c =
    sends_as (dump_is c.args.scene.now)
    (sends_then c.in_ok-write_all.ensures (sends_then c.in_ok-write_scopes.ensures
    (sends_then c.in_ok-write_all-2.ensures (sends_then c.in_ok-write_cycles.ensures.sends (sends_as (ap moment c.cycles.ensures.count) c.write_moment.ensures)))))
