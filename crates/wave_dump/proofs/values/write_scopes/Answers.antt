use Rattle.std.proofs.Common.{arith}
use Rattle.std.proofs.lemmas.Result.{err_from_is_err_and}
use Rattle.fm_shelf.proofs.Sending.{sends_no_number, sends_number, sends_number_torn}
use Rattle.wave_dump.specs.Dump.{scope_values}
use Rattle.wave_dump.proofs.values.write_scopes.Goals as goal

pub loop-scope-init : goal.loop-scope-init
loop-scope-init g c = sends_no_number (scope_values c.args.scene.now c.args.t) _

pub loop-scope-preserved : goal.loop-scope-preserved
loop-scope-preserved g c =
    sends_number (scope_values c.args.scene.now c.args.t) c.loop-scope.scope c.loop-scope.invariant c.in_ok-write_scope.ensures

pub returns-in_err-write_scope : goal.returns-in_err-write_scope
returns-in_err-write_scope g c =
    let p = err_from_is_err_and c.from_residual.result c.from_residual.ensures.1 in
    rw p.1 (sends_number_torn (scope_values c.args.scene.now c.args.t) _ c.loop-scope.scope p.0 (omega (arith, c.loop-scope-test.true, c.scopes-scope-end.ensures)) c.loop-scope.invariant c.in_err-write_scope.ensures)
