use Rattle.std.proofs.Common.{◌≡◌, ◌≢◌, ◌≤◌, ◌+◌, ◌-◌, inl, inr, ℕ, get_or, set, sym, subst, arith, get_or-set_other, get_or-set_same}
use Rattle.std.proofs.lemmas.Bool.{cases_eq}
use Rattle.differential_kernel.specs.Cone.{IsStretch, cone_table}
use Rattle.differential_kernel.proofs.cone.find_stretches.Goals as goal

pub stretch_end-next-requires-clause-stretch : goal.stretch_end-next-requires-clause-stretch
stretch_end-next-requires-clause-stretch c =
    let tables = c.args.tables.now in
    let next = c.loop-back.next in
    let here : c.args.count - c.loop-back.back ≡ c.args.count - 1 - c.loop-back.back + 1 = omega (arith, c.loop-back-test.true) in
    subst (λ j. IsStretch tables (cone_table tables j).gate.op j next) here c.loop-back.invariant.next

pub loop-back-preserved : goal.loop-back-preserved
loop-back-preserved c =
    let tables = c.args.tables.now in
    let count = c.args.count in
    let back = c.loop-back.back in
    let ends = c.loop-back.ends in
    let at = count - 1 - back in
    let end = c.stretch_end-next.result in
    let is = c.loop-back.invariant in
    let here : at ≡ count - (back + 1) = omega (arith, c.loop-back-test.true) in
    let last : get_or (set ends at end) at 0 ≡ end = get_or-set_same ends at end 0 (omega (arith, c.loop-back-test.true, c.requires.room, c.loop-back.auto.ends)) in
    let others : (i : ℕ) → i ≢ at → get_or (set ends at end) i 0 ≡ get_or ends i 0 = λ i other. get_or-set_other ends at i end 0 other in
    record {
      most = omega (arith, c.stretch_end-next.ensures.most, is.most);
      least = omega (arith, c.stretch_end-next.ensures.least, here);
      next = subst (λ j. IsStretch tables (cone_table tables j).gate.op j end) here c.stretch_end-next.ensures.stretch;
      from = λ i le lt. elim (cases_eq i at) [
        | inl same ↦ subst (λ j. j ≤ get_or (set ends at end) j 0) (sym same) (omega (arith, last, c.stretch_end-next.ensures.least))
        | inr other ↦ omega (arith, others i other, is.from i (omega (arith, le, other)) lt)
      ];
      to = λ i le lt. elim (cases_eq i at) [
        | inl same ↦ subst (λ j. get_or (set ends at end) j 0 ≤ count) (sym same) (omega (arith, last, c.stretch_end-next.ensures.most, is.most))
        | inr other ↦ omega (arith, others i other, is.to i (omega (arith, le, other)) lt)
      ];
      each = λ i le lt. elim (cases_eq i at) [
        | inl same ↦ subst (λ j. IsStretch tables (cone_table tables j).gate.op j (get_or (set ends at end) j 0)) (sym same)
            (subst (IsStretch tables (cone_table tables at).gate.op at) (sym last) c.stretch_end-next.ensures.stretch)
        | inr other ↦ subst (IsStretch tables (cone_table tables i).gate.op i) (sym (others i other)) (is.each i (omega (arith, le, other)) lt)
      ];
    }

pub returns : goal.returns
returns c = record {
  least = λ i lt. c.loop-back.invariant.from i (omega (arith, c.loop-back-test.false)) lt;
  most = λ i lt. c.loop-back.invariant.to i (omega (arith, c.loop-back-test.false)) lt;
  each = λ i lt. c.loop-back.invariant.each i (omega (arith, c.loop-back-test.false)) lt;
}
