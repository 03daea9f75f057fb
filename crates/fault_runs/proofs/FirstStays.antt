-- A first cycle among some cycles is the first among more, where it is there or none of the others passes.
use Rattle.std.proofs.Common.{◌≡◌, ℕ, ◌<◌, ◌≤◌, ◌⊎◌, Bool, true, false, inl, inr, Option, Some, None, is_some, sym, arith}
use Rattle.std.proofs.lemmas.Bool.{cases_lt, true≢false}
use Rattle.first_cycles.specs.FirstCycles.{first_below}
use Rattle.first_cycles.proofs.Firsts.{IsFirstOf, first_found, first_is}

module _ (n m : ℕ) (test : ℕ → Bool) (le : n ≤ m) where
  longer : (first : Option ℕ) → ((t : ℕ) → n ≤ t → t < m → test t ≡ false) → IsFirstOf n test first → IsFirstOf m test first
  longer None still none = λ u lt. elim (cases_lt u n) [ inl less ↦ none u less | inr most ↦ still u most lt ]
  longer (Some t) still first = record { within = omega (arith, first.within, le); passes = first.passes; before = first.before }

  pub first_still : ((t : ℕ) → n ≤ t → t < m → test t ≡ false) → first_below n test ≡ first_below m test
  first_still still = sym (first_found m test (first_below n test) (longer (first_below n test) still (first_is n test)))

  there : (first : Option ℕ) → is_some first ≡ true → IsFirstOf n test first → IsFirstOf m test first
  there None is none = absurd (true≢false (sym is))
  there (Some t) is first = record { within = omega (arith, first.within, le); passes = first.passes; before = first.before }

  -- what has shown itself, or never will, is as all the cycles show it
  pub first_closed : (is_some (first_below n test) ≡ true) ⊎ ((t : ℕ) → test t ≡ false) → first_below n test ≡ first_below m test
  first_closed closed = elim closed [
    | inl is ↦ sym (first_found m test (first_below n test) (there (first_below n test) is (first_is n test)))
    | inr never ↦ first_still (λ t from late. never t)
  ]
