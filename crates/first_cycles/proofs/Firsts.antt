-- The first cycle that passes a test: what it is, and that it is one alone.
use Rattle.std.proofs.Common.{◌≡◌, ℕ, zero, suc, ◌<◌, Bool, true, false, cond, [], ◌∷◌, inl, inr, Option, Some, None, find, refl, ap, ◌∙◌, arith}
use Rattle.std.specs.Option.{option_or}
use Rattle.std.proofs.lemmas.Bool.{cases_lt}
use Rattle.std.proofs.lemmas.List.Folds.{find-append}
use Rattle.fm_base.specs.Lists.{below}
use Rattle.fm_base.proofs.Below.{below_push}
use Rattle.fm_base.proofs.Tests.{clash}
use Rattle.first_cycles.specs.FirstCycles.{first_below}

-- t is the first number below n that passes
pub record IsFirst (n : ℕ) (test : ℕ → Bool) (t : ℕ) : Type 0 where
  pub within : t < n
  pub passes : test t ≡ true
  pub before : (u : ℕ) → u < t → test u ≡ false

-- the same of what may not be there: then none passes
abbrev pub IsFirstOf : ℕ → (ℕ → Bool) → Option ℕ → Type 0
IsFirstOf n test None = (u : ℕ) → u < n → test u ≡ false
IsFirstOf n test (Some t) = IsFirst n test t

-- one number more
one_more : (n : ℕ) (test : ℕ → Bool) (first : Option ℕ) (b : Bool) → test n ≡ b → IsFirstOf n test first
    → IsFirstOf (suc n) test (option_or first (cond b (Some n) None))
one_more n test (Some t) b e first = record { within = omega (arith, first.within); passes = first.passes; before = first.before }
one_more n test None true e none = record { within = omega arith; passes = e; before = none }
one_more n test None false e none = λ u lt.
    elim (cases_lt u n) [ inl less ↦ none u less | inr most ↦ (let same : u ≡ n = omega (arith, lt, most) in ap test same ∙ e) ]

-- WHAT IS FOUND is the first
pub first_is : (n : ℕ) (test : ℕ → Bool) → IsFirstOf n test (first_below n test)
unfolding below
first_is zero test = λ u lt. absurd (omega (arith, lt))
first_is (suc n) test =
    let e : first_below (suc n) test ≡ option_or (first_below n test) (cond (test n) (Some n) None) =
    ap (find test) (below_push n) ∙ find-append test (below n) (n ∷ []) in
    rw e (one_more n test (first_below n test) (test n) refl (first_is n test))

pub one_alone : {n : ℕ} {test : ℕ → Bool} (t u : ℕ) → IsFirst n test t → IsFirst n test u → t ≡ u
one_alone {test} t u p q =
    elim (cases_lt t u) [
      | inl less ↦ absurd (clash (test t) p.passes (q.before t less))
      | inr most ↦ elim (cases_lt u t) [ inl less ↦ absurd (clash (test u) q.passes (p.before u less)) | inr both ↦ omega (arith, most, both) ]
    ]

-- THERE IS ONE FIRST alone
pub first_once : (n : ℕ) (test : ℕ → Bool) (a b : Option ℕ) → IsFirstOf n test a → IsFirstOf n test b → a ≡ b
first_once n test None None p q = refl
first_once n test None (Some u) p q = absurd (clash (test u) q.passes (p u q.within))
first_once n test (Some t) None p q = absurd (clash (test t) p.passes (q t p.within))
first_once n test (Some t) (Some u) p q = ap (λ k. Some k) (one_alone t u p q)

-- whatever is a first is what is found
pub first_found : (n : ℕ) (test : ℕ → Bool) (a : Option ℕ) → IsFirstOf n test a → first_below n test ≡ a
first_found n test a p = first_once n test (first_below n test) a (first_is n test) p
