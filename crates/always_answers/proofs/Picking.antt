-- Lists to which one more is pushed, and the nets that pass a test.
use Rattle.std.proofs.Common.{◌≡◌, ◌⊎◌, inl, inr, ℕ, ◌+◌, ◌<◌, Bool, true, false, ◌&&◌, List, [], ◌∷◌, ◌++◌, length, get_or, cond, refl, ap, sym, subst, ◌∙◌, arith}
use Rattle.std.specs.Prelude.{count_by, unwrap_or}
use Rattle.std.proofs.lemmas.Bool.{cases_lt}
use Rattle.std.proofs.lemmas.List.{get_or_append_left, get_or_push, length_push}
use Rattle.std.proofs.lemmas.Option.{slice_get_past, unwrap_or-slice_get}
use Rattle.fm_base.specs.Lists.{below}
use Rattle.fm_base.proofs.Below.{count_below}
use Rattle.fm_base.proofs.Tests.{clash}
use Rattle.circuit.specs.Order.{net_at}
use Rattle.circuit.specs.Value.{bit_at}
use Rattle.circuit.specs.declared.parts.NetId.{NetId}
use Rattle.always_answers.specs.Steps.{ArePicked, net}

-- WHAT HOLDS at each place holds behind one more
pub in_push : {X : Type 0} (P : ℕ → X → Type 0) (xs : List X) (x d : X) → ((i : ℕ) → i < length xs → P i (get_or xs i d)) → P (length xs) x
    → (i : ℕ) → i < length xs + 1 → P i (get_or (xs ++ x ∷ []) i d)
in_push {X} P xs x d before last i less = elim (cases_lt i (length xs)) as (λ _. P i (get_or (xs ++ x ∷ []) i d)) [
  | inl lt ↦ subst (P i) (sym (get_or_append_left xs (x ∷ []) d i lt)) (before i lt)
  | inr ge ↦ (
      let it : length xs ≡ i = omega (arith, ge, less) in
      subst (P i) (sym (get_or_push xs x d i it)) (subst (λ j. P j x) it last))
]

module _ (test : ℕ → Bool) (count : ℕ) (nets : List NetId) (are : ArePicked test count nets) where
  -- one more passes
  pub pick_yes : test count ≡ true → ArePicked test (count + 1) (nets ++ net count ∷ [])
  pick_yes passes = record {
    each = λ i lt. in_push (λ i one. (one.0 < count + 1) × (test one.0 ≡ true)) nets (net count) (record { 0 = 0 })
        (λ j less. (let it = are.each j less in (omega (arith, it.0), it.1))) (omega arith, passes) i (omega (arith, lt, length_push nets (net count)));
    all = λ n lt e. elim (cases_lt n count) as (λ _. (i : ℕ) × (i < length (nets ++ net count ∷ [])) × ((net_at (nets ++ net count ∷ []) i).0 ≡ n)) [
      | inl less ↦ (
          let it = are.all n less e in
          (it.0, omega (arith, it.1, length_push nets (net count)), ap (λ (one : NetId). one.0) (get_or_append_left nets (net count ∷ []) (record { 0 = 0 }) it.0 it.1) ∙ it.2))
      | inr ge ↦ (
        length nets,
        omega (arith, length_push nets (net count)),
        ap (λ (one : NetId). one.0) (get_or_push nets (net count) (record { 0 = 0 }) (length nets) refl) ∙ omega (arith, ge, lt),
      )
    ];
  }

  -- or it doesn't
  pub pick_no : test count ≡ false → ArePicked test (count + 1) nets
  pick_no fails = record {
    each = λ i lt. (let it = are.each i lt in (omega (arith, it.0), it.1));
    all = λ n lt e. elim (cases_lt n count) as (λ _. (i : ℕ) × (i < length nets) × ((net_at nets i).0 ≡ n)) [
      | inl less ↦ are.all n less e
      | inr ge ↦ absurd (let it : n ≡ count = omega (arith, ge, lt) in clash (test count) (subst (λ m. test m ≡ true) it e) fails)
    ];
  }

pub none_picked : (test : ℕ → Bool) → ArePicked test 0 []
none_picked test = record {
  each = λ i lt. absurd (omega (arith, lt));
  all = λ n lt. absurd (omega (arith, lt));
}

-- ---- how many pass

pub counted_none : (p : ℕ → Bool) → 0 ≡ count_by p (below 0)
unfolding below
counted_none p = refl

pub counted_yes : (p : ℕ → Bool) (i : ℕ) → p i ≡ true → count_by p (below (i + 1)) ≡ count_by p (below i) + 1
counted_yes p i e = count_below p i ∙ ap (λ b. count_by p (below i) + cond b 1 0) e

pub counted_no : (p : ℕ → Bool) (i : ℕ) → p i ≡ false → count_by p (below (i + 1)) ≡ count_by p (below i)
counted_no p i e = count_below p i ∙ ap (λ b. count_by p (below i) + cond b 1 0) e ∙ omega arith

pub and_no : (a b : Bool) → (a ≡ false) ⊎ (b ≡ false) → (a && b) ≡ false
and_no false b e = refl
and_no true b (inl e) = absurd (clash true refl e)
and_no true b (inr e) = e

-- a number with a mark is that of a mark
pub within_marks : (marks : List Bool) (n : ℕ) → bit_at marks n ≡ true → n < length marks
within_marks marks n e = elim (cases_lt n (length marks)) as (λ _. n < length marks) [
  | inl lt ↦ lt
  | inr ge ↦ absurd (clash (bit_at marks n) e (sym (unwrap_or-slice_get marks n false) ∙ ap (λ found. unwrap_or found false) (slice_get_past marks n ge)))
]
