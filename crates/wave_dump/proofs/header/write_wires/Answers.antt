use Rattle.std.proofs.Common.{ap, length, arith}
use Rattle.std.proofs.lemmas.Result.{err_from_is_err_and}
use Rattle.fm_shelf.proofs.Sending.{sends_no_number, sends_number, sends_number_torn}
use Rattle.wave_dump.specs.Steps.{wire_line}
use Rattle.wave_dump.proofs.header.write_wires.Goals as goal

pub loop-place-init : goal.loop-place-init
loop-place-init g c = sends_no_number (wire_line c.args.scene.now c.args.scope) _

pub loop-place-preserved : goal.loop-place-preserved
loop-place-preserved g c =
    sends_number (wire_line c.args.scene.now c.args.scope) c.loop-place.place c.loop-place.invariant c.in_ok-write_wire.ensures

pub returns-in_err-write_wire : goal.returns-in_err-write_wire
returns-in_err-write_wire g c =
    let p = err_from_is_err_and c.from_residual.result c.from_residual.ensures.1 in
    rw p.1 (sends_number_torn (wire_line c.args.scene.now c.args.scope) _ c.loop-place.place p.0 (omega (arith, c.loop-place-test.true, ap length c.nets.ensures.value)) c.loop-place.invariant c.in_err-write_wire.ensures)
