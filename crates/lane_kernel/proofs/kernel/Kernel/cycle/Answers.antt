use Rattle.std.proofs.Common.{◌≡◌, ◌+◌, map, refl, ap, sym, ◌∙◌, subst, arith}
use Rattle.std.proofs.lemmas.Grind.{common_steps}
use Rattle.std.specs.Vec.{with_items}
use Rattle.circuit.specs.declared.parts.Latch.{Latch}
use Rattle.circuit.specs.Circuit.{Circuit}
use Rattle.circuit.specs.Value.{Cycle, bit_at, cycle_of}
use Rattle.circuit.specs.Trace.{flipped}
use Rattle.circuit.specs.After.{Moment}
use Rattle.circuit.proofs.Cycles.{after_step}
use Rattle.lane_words.specs.Forces.{AreForces}
use Rattle.lane_words.specs.Gates.{gate_at, plane}
use Rattle.lane_words.specs.Loads.{has_pulses, loaded_faults}
use Rattle.lane_words.specs.Bank.{lane_of}
use Rattle.lane_kernel.specs.Kernel.{kernel_bank}
use Rattle.lane_kernel.proofs.Marking.{affected_free}
use Rattle.lane_kernel.proofs.Transients.{no_pulses}
use Rattle.lane_kernel.proofs.kernel.Kernel.cycle.Goals as goal

pub arm_for-self-requires-clause-calm : goal.arm_for-self-requires-clause-calm
arm_for-self-requires-clause-calm g c = λ none.
    let s = c.args.self.now in
    ap (λ loads. has_pulses loads s.cycle) c.deref.ensures.value ∙ no_pulses s.loads.items s.cycle (sym c.requires.kernel.transient ∙ none)

pub returns-clause-step : goal.returns-clause-step
returns-clause-step g c = λ vectors after k lt.
    let s = c.args.self.now in
    let bit = g.W.Word.lane_bit in
    let loads = s.loads.items in
    let x : Cycle = cycle_of s.circuit.value (loaded_faults loads k) s.cycle (flipped (loaded_faults loads k) s.cycle (plane bit k s.raw.items)) c.args.inputs.now in
    let raw : (with_items s.raw c.run.new.raw).items ≡ c.run.new.raw = grind (arith, common_steps) in
    let words : (with_items s.words c.run.new.words).items ≡ c.run.new.words = grind (arith, common_steps) in
    let forces : c.deref-5.result.now ≡ c.arm_for-self.new.forces = grind (arith, common_steps) in
    let values =
    rw (c.deref-2.ensures.value, c.deref-4.ensures.value, c.deref-6.ensures.value, c.deref_mut-2.ensures.value, ← c.requires.made) at
    c.run.ensures.values k s.order.value lt in
    let armed = rw c.deref.ensures.value at c.arm_for-self.ensures.armed in
    let new : Moment = record { cycle = s.cycle + 1; raw = plane bit k c.run.new.raw; values = plane bit k c.run.new.words } in
    rw (raw, words)
    (after_step s.circuit.value (loaded_faults loads k) vectors c.args.inputs.now (lane_of bit k (kernel_bank s)) new c.requires.kernel.program.sound (after k lt)
    (values c.requires.kernel.program
    (subst (λ fs. AreForces bit k fs x) (sym forces) (λ n d own within. armed k n d own lt within))
    (λ from lt2 j own le below. affected_free loads k s.cycle (gate_at s.gates.items j).to own (c.requires.kernel.quiet from j lt2 le below)))
    (c.run.ensures.raw k lt
    ∙ ap (λ (m : Circuit). map (λ (latch : Latch). bit_at (plane bit k c.run.new.words) latch.from.0) m.latches) (sym c.requires.made)) refl)
