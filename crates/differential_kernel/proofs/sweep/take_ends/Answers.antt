use Rattle.std.proofs.Common.{◌≡◌, ◌≢◌, inl, inr, ℕ, ◌<◌, List, false, length, get_or, set, ap, subst, sym, ◌∙◌, arith}
use Rattle.std.proofs.lemmas.Bool.{cases_eq, true≢false}
use Rattle.circuit.specs.declared.parts.Latch.{Latch}
use Rattle.circuit.specs.Value.{bit_at}
use Rattle.lane_words.specs.Gates.{latch_at, plane}
use Rattle.place_set.specs.Places.{has}
use Rattle.differential_kernel.specs.Differences.{read_in}
use Rattle.differential_kernel.proofs.Ends.{ends_apart}
use Rattle.differential_kernel.proofs.Notes.{at_set_other, at_set_same}
use Rattle.differential_kernel.proofs.sweep.take_ends.Goals as goal

pub loop-at-preserved : goal.loop-at-preserved
loop-at-preserved g c =
    let bit = g.W.Word.lane_bit in
    let raw = c.loop-at.raw in
    let cone = c.args.cone.now in
    let ends = c.requires.ends in
    let at = c.loop-at.at in
    let l = get_or cone.ends.items at 0 in
    let slot = get_or c.as_slice-ends.result.now at 0 in
    let here : slot ≡ l = ap (λ (items : List ℕ). get_or items at 0) c.as_slice-ends.ensures.value in
    let stored : set raw slot c.value_word.result ≡ set raw l c.value_word.result = ap (λ i. set raw i c.value_word.result) here in
    let latches = c.args.netlist.now.latches in
    let values = c.args.values.now in
    let row = c.args.row.now in
    let none : Latch = record { from = record { 0 = 0 }; to = record { 0 = 0 }; start = false } in
    let within : l < length raw = omega (arith, ends.listed.below at c.loop-at-test.true, c.loop-at.auto.raw, c.requires.raw.bound, ends.bound) in
    record {
      taken = λ k i lt less.
          ap (λ ws. bit_at (plane bit k ws) (get_or cone.ends.items i 0)) stored
          ∙ elim (cases_eq i at) as (λ _. bit_at (plane bit k (set raw l c.value_word.result)) (get_or cone.ends.items i 0) ≡ read_in bit k row values (latch_at latches (get_or cone.ends.items i 0)).from.0) [
            | inl same ↦
                subst (λ j. bit_at (plane bit k (set raw l c.value_word.result)) (get_or cone.ends.items j 0) ≡ read_in bit k row values (latch_at latches (get_or cone.ends.items j 0)).from.0) (sym same)
                (at_set_same bit k raw l c.value_word.result within ∙ c.value_word.ensures k lt
                ∙ ap (λ (ls : List Latch). read_in bit k row values (get_or ls slot none).from.0) c.latches-latches.ensures.value
                ∙ ap (λ j. read_in bit k row values (latch_at latches j).from.0) here)
            | inr other ↦
                (let low : i < at = omega (arith, less, other) in
                at_set_other bit k raw l (get_or cone.ends.items i 0) c.value_word.result (ends_apart c.args.netlist.now cone ends i at low c.loop-at-test.true)
                ∙ c.loop-at.invariant.taken k i lt low)
          ];
      same = λ n out k lt.
          let other : n ≢ l = λ same. true≢false (sym (ends.listed.each at c.loop-at-test.true) ∙ ap (has cone.latches) (sym same) ∙ out) in
          ap (λ ws. bit_at (plane bit k ws) n) stored ∙ at_set_other bit k raw l n c.value_word.result other ∙ c.loop-at.invariant.same n out k lt;
    }

pub returns-clause-taken : goal.returns-clause-taken
returns-clause-taken g c = λ k l lt within there.
    let latches = c.args.netlist.now.latches in
    let bit = g.W.Word.lane_bit in
    let at = c.requires.ends.listed.whole l within there in
    subst (λ i. bit_at (plane bit k c.loop-at.raw) i ≡ read_in bit k c.args.row.now c.args.values.now (latch_at latches i).from.0) at.2
    (c.loop-at.invariant.taken k at.0 lt (omega (arith, at.1, c.loop-at-test.false)))
