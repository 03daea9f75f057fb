use Rattle.std.proofs.Common.{◌≡◌, inl, inr, ℕ, ◌<◌, false, List, length, get_or, set, ap, ap₂, sym, subst, ◌∙◌, arith}
use Rattle.std.proofs.lemmas.Bool.{cases_eq}
use Rattle.circuit.specs.declared.parts.Latch.{Latch}
use Rattle.circuit.specs.Value.{bit_at}
use Rattle.lane_words.specs.Bits.{either}
use Rattle.lane_words.specs.Gates.{latch_at, plane}
use Rattle.lane_words.proofs.Latches.{latches_inside}
use Rattle.place_set.specs.Places.{value_in}
use Rattle.differential_kernel.proofs.Ends.{ends_apart}
use Rattle.differential_kernel.proofs.Latching.{latch_apart}
use Rattle.differential_kernel.proofs.Notes.{at_set_other, at_set_same}
use Rattle.differential_kernel.proofs.sweep.show_ends.Goals as goal

pub set_word-requires : goal.set_word-requires
set_word-requires g c =
    let l = get_or c.args.cone.now.ends.items c.loop-at.at 0 in
    let slot = get_or c.as_slice-ends.result.now c.loop-at.at 0 in
    let here : slot ≡ l = ap (λ (items : List ℕ). get_or items c.loop-at.at 0) c.as_slice-ends.ensures.value in
    let none : Latch = record { from = record { 0 = 0 }; to = record { 0 = 0 }; start = false } in
    let within = c.requires.ends.listed.below c.loop-at.at c.loop-at-test.true in
    let inside = latches_inside c.args.netlist.now c.latches-latches.ensures.sound l none within in
    omega (arith, ap (λ (ls : List Latch). (get_or ls slot none).to.0) c.latches-latches.ensures.value, ap (λ i. (latch_at c.args.netlist.now.latches i).to.0) here, inside, c.loop-at.auto.values, c.requires.nets)

pub loop-at-preserved : goal.loop-at-preserved
loop-at-preserved g c =
    let bit = g.W.Word.lane_bit in
    let sound = c.latches-latches.ensures.sound in
    let circuit = c.args.netlist.now in
    let cone = c.args.cone.now in
    let row = c.args.row.now in
    let raw = c.args.raw.now in
    let ends = c.requires.ends in
    let at = c.loop-at.at in
    let l = get_or cone.ends.items at 0 in
    let slot = get_or c.as_slice-ends.result.now at 0 in
    let here : slot ≡ l = ap (λ (items : List ℕ). get_or items at 0) c.as_slice-ends.ensures.value in
    let values = c.loop-at.values in
    let v = c.xor.result in
    let none : Latch = record { from = record { 0 = 0 }; to = record { 0 = 0 }; start = false } in
    let within : l < length circuit.latches = ends.listed.below at c.loop-at-test.true in
    let to = (latch_at circuit.latches l).to.0 in
    let stored : c.set_word.new.words ≡ set values to v =
    c.set_word.ensures ∙ ap (λ (ls : List Latch). set values (get_or ls slot none).to.0 v) c.latches-latches.ensures.value
    ∙ ap (λ i. set values (latch_at circuit.latches i).to.0 v) here in
    let inside : to < length values = omega (arith, latches_inside circuit sound l none within, c.requires.nets, c.loop-at.auto.values) in
    record {
      shown = λ k i lt less. ap (λ ws. bit_at (plane bit k ws) (latch_at circuit.latches (get_or cone.ends.items i 0)).to.0) stored
          ∙ elim (cases_eq i at) as (λ _. bit_at (plane bit k (set values to v)) (latch_at circuit.latches (get_or cone.ends.items i 0)).to.0
          ≡ either (value_in row (latch_at circuit.latches (get_or cone.ends.items i 0)).to.0) (bit_at (plane bit k raw) (get_or cone.ends.items i 0))) [
            | inl same ↦
                subst (λ j. bit_at (plane bit k (set values to v)) (latch_at circuit.latches (get_or cone.ends.items j 0)).to.0
                ≡ either (value_in row (latch_at circuit.latches (get_or cone.ends.items j 0)).to.0) (bit_at (plane bit k raw) (get_or cone.ends.items j 0))) (sym same)
                (at_set_same bit k values to v inside ∙ c.xor.ensures k lt
                ∙ ap₂ either
                (c.golden_word-golden.ensures k lt ∙ ap (λ (ls : List Latch). value_in row (get_or ls slot none).to.0) c.latches-latches.ensures.value
                ∙ ap (λ j. value_in row (latch_at circuit.latches j).to.0) here)
                (c.word_at.ensures k lt ∙ ap (bit_at (plane bit k raw)) here))
            | inr other ↦
                (let low : i < at = omega (arith, less, other) in
                let apart = ends_apart circuit cone ends i at low c.loop-at-test.true in
                at_set_other bit k values to (latch_at circuit.latches (get_or cone.ends.items i 0)).to.0 v
                (latch_apart circuit sound (get_or cone.ends.items i 0) l (ends.listed.below i (omega (arith, low, c.loop-at-test.true))) within apart)
                ∙ c.loop-at.invariant.shown k i lt low)
          ];
      others = λ k n apart.
          ap (λ ws. bit_at (plane bit k ws) n) stored
          ∙ at_set_other bit k values to n v (apart l within (ends.listed.each at c.loop-at-test.true)) ∙ c.loop-at.invariant.others k n apart;
    }

pub returns-clause-shown : goal.returns-clause-shown
returns-clause-shown g c = λ k l lt within there.
    let latches = c.args.netlist.now.latches in
    let bit = g.W.Word.lane_bit in
    let at = c.requires.ends.listed.whole l within there in
    subst (λ i. bit_at (plane bit k c.loop-at.values) (latch_at latches i).to.0 ≡ either (value_in c.args.row.now (latch_at latches i).to.0) (bit_at (plane bit k c.args.raw.now) i)) at.2
    (c.loop-at.invariant.shown k at.0 lt (omega (arith, at.1, c.loop-at-test.false)))
