-- The turn of the table: where it isn't free, one seat holds it.
use Rattle.std.proofs.Common.{◌≡◌, ℕ, zero, suc, Bool, true, false, cond, List, [], ◌∷◌, refl, sym, ap, ◌∙◌, subst, inl, inr, ⊎_elim, arith}
use Rattle.std.specs.Prelude.{◌⊎◌, slice_index}
use Rattle.std.specs.List.{sum_by}
use Rattle.std.proofs.lemmas.List.Sums.{sum_by-cons}
use mathlib.Core.Option.{some, some-injective, some-ne-none}
use lib.ListN.{get_elem?}
use Rattle.claim_counter.specs.declared.view.View.{View}
use Rattle.claim_counter.specs.Rules.{TurnRule, Out, Homes, holder}
use Rattle.claim_counter.proofs.Views.{le_sum}
use Rattle.claim_counter.proofs.Frames.{holds_one}
use Rattle.campaign_laws.specs.Turns.{HoldsAlone, TurnIsFreeOrHeld}

-- where the views that hold the turn are one, here it is
found_at : (y : View) (views : List View) (holds : Bool) → y.holds ≡ holds → sum_by holder (y ∷ views) ≡ 1
    → (sum_by holder views ≡ 1 → (i : ℕ) × (v : View) × (get_elem? views i ≡ some v) × (v.holds ≡ true)) → (i : ℕ) × (v : View) × (get_elem? (y ∷ views) i ≡ some v) × (v.holds ≡ true)
found_at y views true is one rest = (0, y, refl, is)
found_at y views false is one rest =
    let none : holder y ≡ 0 = ap (λ b. cond b 1 0) is in
    let sum = sum_by-cons holder y views in
    let found = rest (omega arith) in
    (suc found.0, found.1, found.2, found.3)

found : (views : List View) → sum_by holder views ≡ 1 → (i : ℕ) × (v : View) × (get_elem? views i ≡ some v) × (v.holds ≡ true)
found [] one = absurd (omega arith)
found (y ∷ views) one = found_at y views y.holds refl one (found views)

-- and two of them are the same
only : (views : List View) (i j : ℕ) (v w : View) → sum_by holder views ≡ 1 → get_elem? views i ≡ some v → get_elem? views j ≡ some w → v.holds ≡ true → w.holds ≡ true → i ≡ j
only [] i j v w one at there hv hw = absurd (some-ne-none v (sym at))
only (y ∷ views) zero zero v w one at there hv hw = refl
only (y ∷ views) zero (suc j) v w one at there hv hw =
    let sum = sum_by-cons holder y views in
    let first : holder y ≡ 1 = holds_one y (ap (λ u. u.holds) (some-injective y v at) ∙ hv) in
    let least = le_sum holder views j w there in
    let other = holds_one w hw in
    absurd (omega arith)
only (y ∷ views) (suc i) zero v w one at there hv hw =
    let sum = sum_by-cons holder y views in
    let first : holder y ≡ 1 = holds_one y (ap (λ u. u.holds) (some-injective y w there) ∙ hw) in
    let least = le_sum holder views i v at in
    let other = holds_one v hv in
    absurd (omega arith)
only (y ∷ views) (suc i) (suc j) v w one at there hv hw =
    let sum = sum_by-cons holder y views in
    let least = le_sum holder views i v at in
    let other = holds_one v hv in
    ap suc (only views i j v w (omega arith) at there hv hw)

module _ {V : Type 0} (list : V → List ℕ) (failed : V → Bool) where
  two_words : (b : Bool) → (cond {A = ℕ} b 2 0 ≡ 0) ⊎ (cond {A = ℕ} b 2 0 ≡ 2)
  two_words true = inr refl
  two_words false = inl refl

  held : (turn : ℕ) (homes : Homes V) (views : List View) → Out failed turn homes views → (seat : ℕ) × (view : View) × HoldsAlone views seat view
  held turn homes views o =
      let one = found views o.one in
      (one.0, one.1, record { at = one.2; holds = one.3; share = (o.holds one.0 one.1 one.2 one.3).0; alone = λ i v at h. only views i one.0 v one.1 o.one at one.2 h one.3 })

  free_or_held : (turn : ℕ) (homes : Homes V) (views : List View) → TurnRule failed turn homes views → ((turn ≡ 0) ⊎ (turn ≡ 2)) ⊎ ((seat : ℕ) × (view : View) × HoldsAlone views seat view)
  free_or_held turn homes views rule =
      ⊎_elim
      (λ f. inl (subst (λ t. (t ≡ 0) ⊎ (t ≡ 2)) (sym f.word) (two_words (failed f.value))))
      (λ r. ⊎_elim (λ o. inr (held turn homes views o)) (λ f. inl (inl f.word)) r)
      rule

  pub turn_is_free_or_held : TurnIsFreeOrHeld list failed
  turn_is_free_or_held todo s h =
      let word : slice_index s.words 1 ≡ h.turn = ap (λ ws. slice_index ws 1) h.words in
      subst (λ t. ((t ≡ 0) ⊎ (t ≡ 2)) ⊎ ((seat : ℕ) × (view : View) × HoldsAlone s.views seat view)) (sym word) (free_or_held h.turn s.homes s.views h.turn_rule)
