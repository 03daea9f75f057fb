use Rattle.std.proofs.Common.{◌≡◌, ◌<◌, ℕ, Bool, false, List, length, map, ap, sym, ◌∙◌}
use Rattle.std.specs.Vec.{with_items}
use Rattle.std.proofs.lemmas.List.{length-map, with_items_is}
use Rattle.circuit.specs.declared.parts.Driver.TheVariants.{Input, Latch as FromLatch}
use Rattle.circuit.specs.declared.parts.Latch.{Latch}
use Rattle.circuit.specs.Value.{bit_at, driven, driver_at}
use Rattle.place_set.specs.Places.{value_in}
use Rattle.golden_run.specs.Events.{IsSource, ordered_of}
use Rattle.golden_run.proofs.Simulating.{golden_row, next_raw}
use Rattle.golden_run.proofs.Sources.{input_source, latch_source, sources_shown}
use Rattle.golden_run.proofs.simulation.Simulation.cycle.Goals as goal

pub returns-clause-run : goal.returns-clause-run
returns-clause-run c = λ vectors t given holds.
    let circuit = c.args.wiring.now.netlist.now in
    let sound = c.requires.wiring.program.sound in
    let ordered = c.requires.wiring.program.ordered in
    let raw = c.args.self.now.raw.items in
    let inputs = c.args.inputs.now in
    let row = c.settle.new.values.row.items in
    let latches : (n k : ℕ) → n < length circuit.drivers → driver_at circuit n ≡ FromLatch k → value_in row n ≡ bit_at raw k =
    λ n k within driver.
    c.settle.ensures.sources n (latch_source circuit n k driver) ∙ c.show_inputs.ensures.others n k driver ∙ c.show_latches.ensures.shown n k within driver
    ∙ ap (λ (bits : List Bool). bit_at bits k) c.deref.ensures.value in
    let ins : (n k : ℕ) → n < length circuit.drivers → driver_at circuit n ≡ Input k → value_in row n ≡ bit_at inputs k =
    λ n k within driver. c.settle.ensures.sources n (input_source circuit n k driver) ∙ c.show_inputs.ensures.shown n k within driver in
    let sources : (n : ℕ) → n < length circuit.drivers → IsSource circuit n → value_in row n ≡ driven raw inputs (λ k. false) (driver_at circuit n) =
    sources_shown circuit raw inputs row latches ins in
    let o = ordered_of c.args.wiring.now in
    let taken : c.take_latches.new.raw ≡ map (λ (latch : Latch). value_in row latch.from.0) circuit.latches =
    c.take_latches.ensures
    ∙ ap (λ (words : List ℕ). map (λ (latch : Latch). value_in words latch.from.0) c.latches.result.now) c.deref-2.ensures.value
    ∙ ap (λ (ls : List Latch). map (λ (latch : Latch). value_in row latch.from.0) ls) c.latches.ensures.value in
    let size : length c.take_latches.new.raw ≡ c.args.self.now.raw.len =
    ap (λ (bits : List Bool). length bits) taken ∙ length-map circuit.latches (λ (latch : Latch). value_in row latch.from.0)
    ∙ sym c.requires.made.latches ∙ sym c.args.self.now.raw.ok.0 in
    let is : (with_items c.args.self.now.raw c.take_latches.new.raw).items ≡ c.take_latches.new.raw = with_items_is c.args.self.now.raw c.take_latches.new.raw size in
    record {
      row = golden_row o sound ordered vectors t raw inputs row holds given sources c.settle.ensures.settled;
      raw = is ∙ next_raw o sound ordered vectors t raw inputs row holds given sources c.settle.ensures.settled c.take_latches.new.raw taken;
    }
