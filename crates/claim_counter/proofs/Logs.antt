-- What the rule says of the history.
use Rattle.std.proofs.Common.{◌≡◌, ℕ, suc, ◌<◌, ◌≤◌, ◌==◌, Bool, true, false, List, [], ◌∷◌, ◌++◌, length, set, refl, ◌∙◌, subst, arith, min, length-append}
use Rattle.std.specs.List.{sum_by}
use Rattle.std.proofs.lemmas.List.Sums.{sum_by-cons}
use Rattle.std.proofs.lemmas.Bool.Decides.{nat_tests}
use mathlib.Core.Option.{some}
use lib.ListN.{get_elem?}
use Rattle.claim_counter.specs.declared.view.View.{View}
use Rattle.campaign_core.specs.Machines.{times, once_below}
use Rattle.claim_counter.specs.Views.{spent_view}
use Rattle.claim_counter.specs.Rules.{ClaimsRule, HistoryRule, Homes}
use Rattle.claim_counter.proofs.Views.{sum_at, le_sum, each_set, times-snoc}
use Rattle.claim_counter.proofs.Few.{few}

-- sums, one of which is at most the other at each view
pub sum_le : {A : Type 0} (f g : A → ℕ) (xs : List A) → ((i : ℕ) (v : A) → get_elem? xs i ≡ some v → f v ≤ g v) → sum_by f xs ≤ sum_by g xs
sum_le f g [] each = omega arith
sum_le f g (x ∷ xs) each =
    let a = each 0 x refl in
    let b = sum_le f g xs (λ i u e. each (suc i) u e) in
    omega (arith, sum_by-cons f x xs, sum_by-cons g x xs)

pub once_le : (x n m : ℕ) → n ≤ m → once_below x n ≤ once_below x m
once_le x n m le = grind (arith, nat_tests)

once_one : (x n : ℕ) → once_below x n ≤ 1
once_one x n = grind (arith, nat_tests)

module _ {V : Type 0} (list : V → List ℕ) (todo n : ℕ) (tail history : List ℕ) (homes : Homes V) (views : List View) (claims : ClaimsRule todo n views) (posted : HistoryRule list todo tail history homes views) where
  -- the history has no number twice, and only numbers that were drawn
  pub history_once : (x : ℕ) → times x history ≤ once_below x (min n todo)
  history_once x =
      let a = sum_le (λ (u : View). times x u.posts) (λ u. times x u.claims) views (λ i u e. posted.own i u e x) in
      omega (arith, posted.posts x, claims.claims x)

  -- of a number that v drew, the history has what v posted
  pub history_own : (id : ℕ) (v : View) → get_elem? views id ≡ some v → (d : ℕ) → 0 < times d v.claims → times d history ≡ times d v.posts
  history_own id v at d some_claim =
      let zero_view = spent_view in
      let c = sum_at (λ (u : View). times d u.claims) views id v spent_view at in
      let p = sum_at (λ (u : View). times d u.posts) views id v spent_view at in
      let le = sum_le (λ (u : View). times d u.posts) (λ u. times d u.claims) (set views id spent_view) (each_set (λ u. times d u.posts ≤ times d u.claims) views id spent_view (omega arith) (λ i u e. posted.own i u e d)) in
      omega (arith, claims.claims d, posted.posts d, once_one d (min n todo))

  -- for a number that was drawn and not posted there is a next history word
  pub history_room : (id : ℕ) (v : View) → get_elem? views id ≡ some v → (d : ℕ) → 0 < times d v.claims → times d v.posts ≡ 0 → length history < todo
  history_room id v at d some_claim not_posted =
      let none_ : times d history ≡ 0 = history_own id v at d some_claim ∙ not_posted in
      let below : times d v.claims ≤ once_below d (min n todo) = let a = le_sum (λ (u : View). times d u.claims) views id v at in omega (arith, claims.claims d) in
      let each : (x : ℕ) → times x (history ++ d ∷ []) ≤ once_below x todo = λ x.
      let a = history_once x in
      let b = once_le x (min n todo) todo (omega arith) in
      let e = times-snoc x history d in
      let f = once_le d (min n todo) todo (omega arith) in
      let go : (t : Bool) → (d == x) ≡ t → times x (history ++ d ∷ []) ≤ once_below x todo = λ t. elim t as (λ t. (d == x) ≡ t → times x (history ++ d ∷ []) ≤ once_below x todo) [
        | true ↦ λ is. let same : d ≡ x = grind (arith, nat_tests) in let P : ℕ → Type 0 = λ y. times y (history ++ d ∷ []) ≤ once_below y todo in subst P same (grind (arith, nat_tests, times-snoc d history d))
        | false ↦ λ is. grind (arith, nat_tests)
      ] in
      go (d == x) refl in
      let most = few todo (history ++ d ∷ []) each in
      omega (arith, length-append history (d ∷ []))
