use Rattle.std.proofs.Common.{false, get_or, ap, ◌∙◌}
use Rattle.circuit.specs.Effects.{inverted}
use Rattle.circuit.proofs.Flips.{flip_step}
use Rattle.cycle_sim.proofs.sim.flip.Goals as goal

pub loop-latch-preserved : goal.loop-latch-preserved
loop-latch-preserved c =
    flip_step c.args.faults.now c.args.cycle c.args.bits.now c.loop-latch.bits c.loop-latch.latch c.turned.result c.loop-latch-test.true
    c.loop-latch.auto.bits c.loop-latch.invariant.0 c.loop-latch.invariant.1
    (c.turned.ensures ∙ ap (λ b. inverted b (get_or c.loop-latch.bits c.loop-latch.latch false)) c.is_flipped.ensures)
