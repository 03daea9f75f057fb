-- A test on the numbers below a bound, one after the other.
use Rattle.std.proofs.Common.{◌≡◌, ℕ, zero, suc, ◌+◌, ◌<◌, ◌⊎◌, inl, inr, Bool, true, false, ◌||◌, [], ◌∷◌, refl, ap, ap₂, sym, ◌∙◌, arith}
use Rattle.std.specs.List.{list_any}
use Rattle.fm_base.specs.Lists.{below}
use Rattle.fm_base.proofs.Below.{below_push}
use Rattle.std.proofs.lemmas.List.Folds.{list_any-append}
use Rattle.fm_base.proofs.Tests.{or_true}

pub any_none : (test : ℕ → Bool) → list_any test (below 0) ≡ false
unfolding below
any_none test = refl

last : (test : ℕ → Bool) (n : ℕ) → list_any test (below (suc n)) ≡ (list_any test (below n) || test n)
last test n = ap (list_any test) (below_push n) ∙ list_any-append test (below n) (n ∷ []) ∙ ap (λ b. list_any test (below n) || b) (one (test n))
  where
    one : (b : Bool) → (b || false) ≡ b
    one true = refl
    one false = refl

pub any_more : (test : ℕ → Bool) (n : ℕ) → list_any test (below n) ≡ false → test n ≡ false → list_any test (below (n + 1)) ≡ false
any_more test n none here =
    let succ : n + 1 ≡ suc n = omega arith in
    ap (λ k. list_any test (below k)) succ ∙ last test n ∙ ap₂ (λ a b. a || b) none here

pub any_at : (test : ℕ → Bool) (n k : ℕ) → k < n → test k ≡ true → list_any test (below n) ≡ true
any_at test zero k lt here = absurd (omega arith)
any_at test (suc n) k lt here =
    let split : (k < n) ⊎ (k ≡ n) = grind arith in
    last test n ∙ elim split as (λ _. (list_any test (below n) || test n) ≡ true) [
      | inl less ↦ ap (λ b. b || test n) (any_at test n k less here)
      | inr e ↦ ap (λ b. list_any test (below n) || b) (ap test (sym e) ∙ here) ∙ or_true (list_any test (below n))
    ]
