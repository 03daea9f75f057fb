use Rattle.std.proofs.Common.{◌≡◌, ◌≢◌, ◌<◌, inl, inr, ℕ, List, length, get_or, set, ap, subst, sym, ◌∙◌, arith}
use Rattle.std.proofs.lemmas.Bool.{cases_eq}
use Rattle.circuit.specs.Value.{bit_at}
use Rattle.lane_words.specs.Gates.{plane}
use Rattle.place_set.specs.Places.{value_in}
use Rattle.differential_kernel.proofs.Notes.{at_set_other, at_set_same}
use Rattle.differential_kernel.proofs.sweep.read_golden.Goals as goal

pub bounds-reads-at : goal.bounds-reads-at
bounds-reads-at g c =
    omega (arith, c.loop-at-test.true, c.requires.reads.few, c.requires.room, ap (λ (items : List ℕ). length items) c.as_slice-reads.ensures.value)

pub loop-at-preserved : goal.loop-at-preserved
loop-at-preserved g c = λ k i lt less.
    let bit = g.W.Word.lane_bit in
    let reads = c.args.cone.now.reads.items in
    let row = c.args.row.now in
    let values = c.loop-at.values in
    let at = c.loop-at.at in
    let v = c.golden_word.result in
    let n = get_or reads at 0 in
    let slot = get_or c.as_slice-reads.result.now at 0 in
    let here : slot ≡ n = ap (λ (items : List ℕ). get_or items at 0) c.as_slice-reads.ensures.value in
    let within : n < length values = omega (arith, c.requires.reads.below at c.loop-at-test.true, c.loop-at.auto.values) in
    ap (λ j. bit_at (plane bit k (set values j v)) (get_or reads i 0)) here
    ∙ elim (cases_eq (get_or reads i 0) n) as (λ _. bit_at (plane bit k (set values n v)) (get_or reads i 0) ≡ value_in row (get_or reads i 0)) [
      | inl same ↦
          subst (λ m. bit_at (plane bit k (set values n v)) m ≡ value_in row m) (sym same)
          (at_set_same bit k values n v within ∙ c.golden_word.ensures k lt ∙ ap (value_in row) here)
      | inr other ↦
          at_set_other bit k values n (get_or reads i 0) v other
          ∙ (let apart : i ≢ at = λ e. other (ap (λ j. get_or reads j 0) e) in c.loop-at.invariant k i lt (omega (arith, less, apart)))
    ]

pub returns : goal.returns
returns g c = λ k n lt net there.
    let bit = g.W.Word.lane_bit in
    let at = c.requires.reads.whole n net there in
    subst (λ m. bit_at (plane bit k c.loop-at.values) m ≡ value_in c.args.row.now m) at.2
    (c.loop-at.invariant k at.0 lt (omega (arith, at.1, c.loop-at-test.false)))
