use Rattle.std.proofs.Common.{◌≡◌, ap, ◌∙◌, length, arith}
use Rattle.std.proofs.lemmas.Result.{err_from_is_err_and}
use Rattle.std.specs.List.{flat_map}
use Rattle.fm_base.specs.Lists.{below}
use Rattle.fm_shelf.proofs.Sending.{sends_as, sends_no_number, sends_number, sends_number_torn}
use Rattle.wave_dump.specs.Steps.{value_text}
use Rattle.wave_dump.proofs.Writing.{scope_values_are}
use Rattle.wave_dump.proofs.values.write_scope.Goals as goal

pub loop-place-init : goal.loop-place-init
loop-place-init g c = sends_no_number (value_text c.args.scene.now c.args.t c.args.scope) _

pub loop-place-preserved : goal.loop-place-preserved
loop-place-preserved g c =
    sends_number (value_text c.args.scene.now c.args.t c.args.scope) c.loop-place.place c.loop-place.invariant c.in_ok-write_change.ensures

pub returns-in_err-write_change : goal.returns-in_err-write_change
returns-in_err-write_change g c =
    let p = err_from_is_err_and c.from_residual.result c.from_residual.ensures.1 in
    rw p.1 (sends_as (scope_values_are c.args.scene.now c.args.t c.args.scope)
    (sends_number_torn (value_text c.args.scene.now c.args.t c.args.scope) _ c.loop-place.place p.0 (omega (arith, c.loop-place-test.true, ap length c.nets.ensures.value)) c.loop-place.invariant c.in_err-write_change.ensures))

pub returns : goal.returns
returns g c =
    let w = c.args.scene.now in
    let at_end : c.loop-place.place ≡ length w.nets = omega (arith, c.loop-place-test.false, c.loop-place.auto.place-end, ap length c.nets.ensures.value) in
    sends_as (ap (λ n. flat_map (value_text w c.args.t c.args.scope) (below n)) at_end ∙ scope_values_are w c.args.t c.args.scope) c.loop-place.invariant
