use Rattle.std.proofs.Common.{◌≡◌, ◌<◌, ◌≤◌, ◌+◌, ◌-◌, ◌*◌, ◌∙◌, ℕ, List, [], ◌∷◌, ◌++◌, length, map, take, get_or, set, ap, sym, subst, arith, refl}
use Rattle.std.proofs.Common.{Bool, true, false}
use Rattle.std.specs.Prelude.{count_by, ◌==◌}
use Rattle.std.proofs.lemmas.Bool.{eq-eqb}
use Rattle.fm_base.specs.Lists.{below}
use Rattle.collapse_map.proofs.Owned.{counted_no, counted_yes, number_at, unequal}
use Rattle.collapse_map.proofs.numbers.count_own.Goals as goal
use Rattle.collapse_map.proofs.numbers.count_own.Goals.{then-number-i, else-number-i}

pub loop-i-init : goal.loop-i-init
unfolding below
loop-i-init c = record { few = omega arith; counted = λ f e. refl }

pub loop-i-preserved : goal.loop-i-preserved
loop-i-preserved c = record {
  few = elim c.if-number-i.branch as (λ _. c.if-number-i.count ≤ c.loop-i.i + 1) [ then-number-i w ↦ omega (arith, c.loop-i.invariant.few) | else-number-i w ↦ omega (arith, c.loop-i.invariant.few) ];
  counted = λ f e.
      let i : ℕ = c.loop-i.i in
      let number : get_or c.args.numbers.now i 0 ≡ f i = number_at c.args.numbers.now f i c.loop-i-test.true e in
      let before : c.loop-i.count ≡ count_by (λ k. f k == k) (below i) = c.loop-i.invariant.counted f e in
      elim c.if-number-i.branch as (λ _. c.if-number-i.count ≡ count_by (λ k. f k == k) (below (i + 1))) [
        | then-number-i w ↦
            (let grows = counted_yes (λ k. f k == k) i (eq-eqb (f i) i (sym number ∙ w.if-number-i.true)) in
            omega (arith, before, grows, w.count-is))
        | else-number-i w ↦
            (let stays = counted_no (λ k. f k == k) i (unequal (f i) i (λ same. w.if-number-i.false (number ∙ same))) in
            omega (arith, before, stays, w.count-is))
      ];
}
