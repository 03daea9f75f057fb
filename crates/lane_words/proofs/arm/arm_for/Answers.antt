use Rattle.std.proofs.Common.{[], get_or, sym, ◌∙◌, arith}
use Rattle.circuit.specs.Effects.{affected}
use Rattle.lane_words.specs.Forces.{force_value}
use Rattle.lane_words.specs.Loads.{loaded_faults, names}
use Rattle.lane_words.proofs.Armed.{armed, affected_steady, lane_free}
use Rattle.lane_words.proofs.arm.arm_for.Goals as goal

pub returns-then-pulses-clause-armed : goal.returns-then-pulses-clause-armed
returns-then-pulses-clause-armed g c = λ k n d own lt within.
    let size = c.arm_all.auto.forces in
    c.arm_all.ensures k n d own lt (omega (arith, size, within))
    ∙ armed (names (get_or c.args.loads.now k []) n) (affected (loaded_faults c.args.loads.now k) c.args.cycle n own) (force_value g.W.Word.lane_bit k (get_or c.args.forces.now n d) own)
    (λ e. c.requires.idle k n d own lt (omega (arith, size, within)) e ∙ sym (lane_free (loaded_faults c.args.loads.now k) c.args.cycle n own e))

pub returns-then-pulses-clause-steady : goal.returns-then-pulses-clause-steady
returns-then-pulses-clause-steady g c = λ calm k n t d own lt within none.
    let size = c.arm_all.auto.forces in
    c.arm_all.ensures k n d own lt (omega (arith, size, within))
    ∙ armed (names (get_or c.args.loads.now k []) n) (affected (loaded_faults c.args.loads.now k) c.args.cycle n own) (force_value g.W.Word.lane_bit k (get_or c.args.forces.now n d) own)
    (λ e. c.requires.idle k n d own lt (omega (arith, size, within)) e ∙ sym (lane_free (loaded_faults c.args.loads.now k) c.args.cycle n own e))
    ∙ affected_steady c.args.loads.now k n c.args.cycle t own (sym c.has_some_pulse-pulses.ensures ∙ calm) none

pub returns-else-stale-clause-armed : goal.returns-else-stale-clause-armed
returns-else-stale-clause-armed g c = λ k n d own lt within.
    c.requires.steady c.if-stale.false k n c.args.cycle d own lt within (sym c.has_some_pulse-pulses.ensures ∙ c.if-pulses.false)
