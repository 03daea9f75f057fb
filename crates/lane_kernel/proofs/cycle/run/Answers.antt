use Rattle.std.proofs.Common.{◌<◌, ℕ, List, length, refl, sym, ◌∙◌, subst}
use Rattle.std.specs.List.{All}
use Rattle.circuit.specs.declared.parts.NetId.{NetId}
use Rattle.circuit.specs.declared.parts.Latch.{Latch}
use Rattle.circuit.specs.Value.{Cycle, cycle_of}
use Rattle.circuit.specs.Order.{net_at}
use Rattle.circuit.specs.Trace.{flipped}
use Rattle.circuit.proofs.Walks.{holds_sources, holds_end}
use Rattle.lane_kernel.specs.Ends.{AreInputs, IsRight}
use Rattle.lane_words.specs.Gates.{AreLatches, latch_at, plane}
use Rattle.lane_words.specs.Loads.{loaded_faults}
use Rattle.lane_words.proofs.Planes.{length_plane}
use Rattle.lane_kernel.proofs.Sources.{sources_whole, inputs_driven, inputs_inside}
use Rattle.lane_words.proofs.Latches.{latches_driven, latches_inside}
use Rattle.lane_kernel.proofs.cycle.run.Goals as goal

pub take_inputs-requires-clause-nets : goal.take_inputs-requires-clause-nets
take_inputs-requires-clause-nets g c =
    subst (λ n. All (λ (net : NetId). net.0 < n) c.inputs.result.now) (sym c.requires.size)
    (subst (All (λ (net : NetId). net.0 < length c.args.netlist.now.drivers)) (sym c.inputs.ensures.value)
    (inputs_inside c.args.netlist.now c.inputs.ensures.sound))

pub take_latches-requires-clause-nets : goal.take_latches-requires-clause-nets
take_latches-requires-clause-nets g c =
    subst (λ n. All (λ (latch : Latch). latch.to.0 < n) c.latches-latches.result.now) (sym (c.take_inputs.auto.words ∙ c.requires.size))
    (subst (All (λ (latch : Latch). latch.to.0 < length c.args.netlist.now.drivers)) (sym c.latches-latches.ensures.value)
    (latches_inside c.args.netlist.now c.inputs.ensures.sound))

pub returns-clause-values : goal.returns-clause-values
returns-clause-values g c = λ k order lt program forces paused.
    let net = c.args.netlist.now in
    let faults = loaded_faults c.args.loads.now k in
    let x : Cycle = cycle_of net faults c.args.cycle (flipped faults c.args.cycle (plane g.W.Word.lane_bit k c.args.raw.now)) c.args.inputs.now in
    let inputs : AreInputs net c.inputs.result.now = subst (AreInputs net) (sym c.inputs.ensures.value) (inputs_driven net c.inputs.ensures.sound) in
    let latches : AreLatches net c.latches-latches.result.now =
    subst (AreLatches net) (sym c.latches-latches.ensures.value) (latches_driven net c.inputs.ensures.sound) in
    let state = sym (c.flip.ensures k lt) in
    holds_end x (plane g.W.Word.lane_bit k c.walk.new.words) order program.ordered
    (c.walk.ensures.values k x order lt refl program forces paused
    (holds_sources x (plane g.W.Word.lane_bit k c.take_latches.new.words)
    (length_plane g.W.Word.lane_bit k c.take_latches.new.words ∙ c.take_latches.auto.words ∙ c.take_inputs.auto.words ∙ c.requires.size)
    (sources_whole x (plane g.W.Word.lane_bit k c.take_latches.new.words) program.sound
    (subst (λ (nets : List NetId). (j : ℕ) → j < length nets → IsRight x (plane g.W.Word.lane_bit k c.take_latches.new.words) (net_at nets j).0) c.inputs.ensures.value
    (λ j within.
    c.take_latches.ensures.keeps k x lt forces state latches (net_at c.inputs.result.now j).0 (c.take_inputs.ensures k x lt forces refl inputs j within)))
    (subst (λ (held : List Latch). (j : ℕ) → j < length held → IsRight x (plane g.W.Word.lane_bit k c.take_latches.new.words) (latch_at held j).to.0) c.latches-latches.ensures.value
    (c.take_latches.ensures.right k x lt forces state latches)))))
