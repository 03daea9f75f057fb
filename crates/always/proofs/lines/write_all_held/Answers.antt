use Rattle.std.proofs.Common.{ap, arith, take_all, false}
use Rattle.std.specs.Prelude.{None}
use Rattle.std.specs.List.{flat_map}
use Rattle.std.proofs.lemmas.Result.{err_from_is_err_and}
use Rattle.coverage_claim.specs.declared.parts.Held.{Held}
use Rattle.fm_shelf.proofs.Sending.{sends_as, sends_more, sends_none, sends_torn}
use Rattle.always.specs.Text.{held_line}
use Rattle.always.proofs.lines.write_all_held.Goals as goal

abbrev nothing : Held
nothing = record { net = record { 0 = 0 }; from = 0; before = None; value = false }

pub loop-h-init : goal.loop-h-init
loop-h-init g c = sends_none _

pub loop-h-preserved : goal.loop-h-preserved
loop-h-preserved g c = sends_more (held_line c.args.net.now) c.args.held.now c.loop-h.h-index nothing c.loop-h-test.true c.loop-h.invariant c.in_ok-write_held.ensures

pub returns-in_err-write_held : goal.returns-in_err-write_held
returns-in_err-write_held g c =
    let e = err_from_is_err_and c.from_residual.result c.from_residual.ensures.1 in
    rw e.1 (sends_torn (held_line c.args.net.now) c.args.held.now c.loop-h.h-index nothing c.loop-h-test.true e.0 c.loop-h.invariant c.in_err-write_held.ensures)

pub returns : goal.returns
returns g c = sends_as (ap (flat_map (held_line c.args.net.now)) (take_all c.loop-h.h-index c.args.held.now (omega (arith, c.loop-h-test.false)))) c.loop-h.invariant
