use Rattle.std.proofs.Common.{◌≡◌, ◌<◌, ◌&&◌, ℕ, false, length, ap, ap₂, subst, sym, ◌∙◌, arith}
use Rattle.std.proofs.lemmas.Bool.{true≢false}
use Rattle.circuit.specs.Value.{bit_at, driver_at}
use Rattle.fanout.specs.Readers.{Ordered}
use Rattle.golden_difference.proofs.Exclusive.{either_again}
use Rattle.lane_words.specs.Bits.{either}
use Rattle.lane_words.specs.Gates.{plane}
use Rattle.place_set.specs.Places.{has, value_in}
use Rattle.differential_kernel.specs.Cone.{AreEnds, IsConeOf, is_source}
use Rattle.differential_kernel.specs.Places.{AreThose}
use Rattle.differential_kernel.specs.Shown.{told_in, valued_in}
use Rattle.differential_kernel.proofs.Begun.{begun_by}
use Rattle.differential_kernel.proofs.Notes.{grows_none}
use Rattle.differential_kernel.proofs.Swept.{begins, shown_source}
use Rattle.differential_kernel.proofs.cycle.sweep_cone.Goals as goal

pub read_golden-requires-clause-reads : goal.read_golden-requires-clause-reads
read_golden-requires-clause-reads g c =
    let cone = c.args.cone.now in
    let drivers = ap (λ (o : Ordered). length o.circuit.drivers) c.requires.fit.golden.fanout ∙ sym c.requires.room in
    subst (λ n. AreThose (has cone.read) n cone.reads.items cone.read_count) drivers c.requires.fit.cone.reads.listed

pub read_golden-requires-clause-room : goal.read_golden-requires-clause-room
read_golden-requires-clause-room g c =
    c.requires.fit.cone.reads.room ∙ ap (λ (o : Ordered). length o.circuit.drivers) c.requires.fit.golden.fanout ∙ sym c.requires.room

pub show_ends-requires-clause-ends : goal.show_ends-requires-clause-ends
show_ends-requires-clause-ends g c = subst (λ (o : Ordered). AreEnds o.circuit c.args.cone.now) c.requires.fit.golden.fanout c.requires.fit.cone.ends

pub force_sources-requires-clause-listed : goal.force_sources-requires-clause-listed
force_sources-requires-clause-listed g c =
    let cone = c.args.cone.now in
    let drivers = ap (λ (o : Ordered). length o.circuit.drivers) c.requires.fit.golden.fanout ∙ sym c.requires.room ∙ sym c.read_golden.auto.values ∙ sym c.show_ends.auto.values in
    subst (λ n. AreThose (has cone.source) n cone.sources.items cone.source_count) drivers c.requires.fit.cone.sources.listed

pub force_sources-requires-clause-room : goal.force_sources-requires-clause-room
force_sources-requires-clause-room g c =
    c.requires.fit.cone.sources.room ∙ ap (λ (o : Ordered). length o.circuit.drivers) c.requires.fit.golden.fanout ∙ sym c.requires.room ∙ sym c.read_golden.auto.values ∙ sym c.show_ends.auto.values

pub force_sources-requires-clause-forces : goal.force_sources-requires-clause-forces
force_sources-requires-clause-forces g c = c.requires.fit.forces.each ∙ sym c.requires.room ∙ sym c.read_golden.auto.values ∙ sym c.show_ends.auto.values

pub sweep-requires-clause-room : goal.sweep-requires-clause-room
sweep-requires-clause-room g c = c.force_sources.auto.values ∙ c.show_ends.auto.values ∙ c.read_golden.auto.values ∙ c.requires.room

pub sweep-requires-clause-read : goal.sweep-requires-clause-read
sweep-requires-clause-read g c = λ k n lt net there out.
    let circuit = c.args.cycle.now.netlist.now in
    let cone = c.args.cone.now in
    let is : IsConeOf (record { circuit = circuit; order = c.args.cycle.now.order.now }) cone = subst (λ (o : Ordered). IsConeOf o cone) c.requires.fit.golden.fanout c.requires.fit.cone in
    let within : n < length c.args.values.now = omega (arith, net, c.force_sources.auto.values, c.show_ends.auto.values, c.read_golden.auto.values) in
    let free : has cone.source n ≡ false =
    is.sources.each n (omega (arith, within, c.requires.room)) ∙ ap (λ b. b && is_source (driver_at circuit n)) (grows_none cone.named cone.nets n is.sources.inside out) in
    c.force_sources.ensures.others k n free
    ∙ c.show_ends.ensures.others k n (λ l less own same. true≢false (sym own ∙ is.ends.latches l less ∙ ap (has cone.nets) (sym same) ∙ out))
    ∙ c.read_golden.ensures k n lt within there

pub returns-clause-values : goal.returns-clause-values
returns-clause-values g c = λ k x golden lt pair are holds n net.
    let lanes = g.W.Word.lanes in
    let bit = g.W.Word.lane_bit in
    let circuit = c.args.cycle.now.netlist.now in
    let order = c.args.cycle.now.order.now in
    let row = c.args.cycle.now.row.now in
    let raw = c.args.raw.now in
    let cone = c.args.cone.now in
    let forces = c.args.forces.now.by_net.items in
    let sound = c.requires.fit.golden.sound in
    let is : IsConeOf (record { circuit = circuit; order = order }) cone = subst (λ (o : Ordered). IsConeOf o cone) c.requires.fit.golden.fanout c.requires.fit.cone in
    let quiet : (l : ℕ) → has cone.latches l ≡ false → bit_at (plane bit k raw) l ≡ false = λ l none. c.requires.raw.same l none k lt in
    let first = c.read_golden.new.values in
    let shown = c.show_ends.new.values in
    let forced = c.force_sources.new.values in
    let sources =
    shown_source lanes bit k lt circuit order sound cone is row raw quiet first shown
    (λ m within there. c.read_golden.ensures k m lt (omega (arith, within, c.requires.room)) there)
    (λ l within there. c.show_ends.ensures.shown k l lt within there)
    (λ m apart. c.show_ends.ensures.others k m apart) in
    let begin =
    begins lanes bit k lt circuit order sound cone is row raw quiet forces shown forced
    (λ m within none. c.requires.fit.forces.idle m (omega (arith, within, c.requires.fit.forces.each)) (grows_none c.args.forces.now.named cone.named m c.requires.fit.named none))
    sources
    (λ m d within there. c.force_sources.ensures.forced k m d lt (omega (arith, within, c.requires.room, c.read_golden.auto.values, c.show_ends.auto.values)) there)
    (λ m none. c.force_sources.ensures.others k m none) in
    sym (either_again (value_in row n) (told_in bit k row cone.nets c.sweep.new.values n))
    ∙ ap₂ either
    (c.sweep.ensures.values k x golden lt pair are
    (begun_by lanes bit k lt circuit order sound c.requires.fit.golden.ordered row forces c.requires.fit.forces.each x golden pair are
    (bit_at (plane bit k raw)) (valued_in bit k row cone.nets forced) holds begin)
    n net)
    (pair.values n net)
