use Rattle.std.proofs.Common.{◌≡◌, ◌≢◌, inl, inr, ◌<◌, ℕ, List, length, get_or, set, ap, ap₂, sym, ◌∙◌, subst, arith}
use Rattle.std.proofs.lemmas.Bool.{cases_eq, true≢false}
use Rattle.circuit.specs.Value.{bit_at}
use Rattle.lane_words.specs.declared.force.Force.{Force}
use Rattle.lane_words.specs.Forces.{force_value}
use Rattle.lane_words.specs.Gates.{plane}
use Rattle.place_set.specs.Places.{has}
use Rattle.differential_kernel.proofs.Notes.{at_set_other, at_set_same}
use Rattle.differential_kernel.proofs.sweep.force_sources.Goals as goal

pub bounds-sources-at : goal.bounds-sources-at
bounds-sources-at g c =
    omega (arith, c.loop-at-test.true, c.requires.listed.few, c.requires.room, ap (λ (items : List ℕ). length items) c.as_slice-sources.ensures.value)

pub forced_at-requires : goal.forced_at-requires
forced_at-requires g c =
    let at = c.loop-at.at in
    let here = ap (λ (items : List ℕ). get_or items at 0) c.as_slice-sources.ensures.value in
    let size = ap (λ (fs : List (Force g.row.W.Denot)). length fs) c.deref.ensures.value in
    omega (arith, here, c.requires.listed.below at c.loop-at-test.true, size, c.requires.forces)

pub loop-at-preserved : goal.loop-at-preserved
loop-at-preserved g c =
    let bit = g.W.Word.lane_bit in
    let sources = c.args.cone.now.sources.items in
    let forces = c.args.forces.now.by_net.items in
    let first = c.args.values.now in
    let values = c.loop-at.values in
    let at = c.loop-at.at in
    let v = c.forced_at.result in
    let n = get_or sources at 0 in
    let slot = get_or c.as_slice-sources.result.now at 0 in
    let here : slot ≡ n = ap (λ (items : List ℕ). get_or items at 0) c.as_slice-sources.ensures.value in
    let within : n < length values = omega (arith, c.requires.listed.below at c.loop-at-test.true, c.loop-at.auto.values) in
    let apart : (i : ℕ) → i < at → n ≢ get_or sources i 0 = λ i low same. omega (arith, c.requires.listed.ascending i at low c.loop-at-test.true, same) in
    record {
      done = λ k i d lt less.
          ap (λ j. bit_at (plane bit k (set values j v)) (get_or sources i 0)) here
          ∙ elim (cases_eq i at) as (λ _. bit_at (plane bit k (set values n v)) (get_or sources i 0) ≡ force_value bit k (get_or forces (get_or sources i 0) d) (bit_at (plane bit k first) (get_or sources i 0))) [
            | inl same ↦
                subst (λ j. bit_at (plane bit k (set values n v)) (get_or sources j 0) ≡ force_value bit k (get_or forces (get_or sources j 0) d) (bit_at (plane bit k first) (get_or sources j 0))) (sym same)
                (at_set_same bit k values n v within ∙ c.forced_at.ensures k d lt
                ∙ ap (λ (fs : List (Force g.row.W.Denot)). force_value bit k (get_or fs slot d) (bit c.word_at.result k)) c.deref.ensures.value
                ∙ ap₂ (λ j b. force_value bit k (get_or forces j d) b) here
                (c.word_at.ensures k lt ∙ ap (bit_at (plane bit k values)) here ∙ c.loop-at.invariant.rest k n apart))
            | inr other ↦
                (let low : i < at = omega (arith, less, other) in
                at_set_other bit k values n (get_or sources i 0) v (λ same. apart i low (sym same)) ∙ c.loop-at.invariant.done k i d lt low)
          ];
      rest = λ k m none.
          ap (λ j. bit_at (plane bit k (set values j v)) m) here
          ∙ at_set_other bit k values n m v (none at (omega arith)) ∙ c.loop-at.invariant.rest k m (λ i low. none i (omega (arith, low)));
    }

pub returns-clause-forced : goal.returns-clause-forced
returns-clause-forced g c = λ k n d lt net there.
    let bit = g.W.Word.lane_bit in
    let at = c.requires.listed.whole n net there in
    subst (λ m. bit_at (plane bit k c.loop-at.values) m ≡ force_value bit k (get_or c.args.forces.now.by_net.items m d) (bit_at (plane bit k c.args.values.now) m)) at.2
    (c.loop-at.invariant.done k at.0 d lt (omega (arith, at.1, c.loop-at-test.false)))

pub returns-clause-others : goal.returns-clause-others
returns-clause-others g c = λ k n none.
    c.loop-at.invariant.rest k n
    (λ i low same. true≢false (sym (c.requires.listed.each i (omega (arith, low, c.loop-at.auto.at-end))) ∙ ap (has c.args.cone.now.source) (sym same) ∙ none))
