-- Starts that grow, one latch after the other.
use Rattle.std.proofs.Common.{◌≡◌, ◌≢◌, inl, inr, ℕ, ◌+◌, ◌<◌, ◌≤◌, Bool, true, List, Some, false, length, set, ap, sym, ◌∙◌, arith, get_or-set_same, get_or-set_other}
use Rattle.std.specs.List.{slice_get}
use Rattle.std.proofs.lemmas.Bool.{cases_eq}
use Rattle.std.proofs.lemmas.List.{set-get_or}
use Rattle.std.proofs.lemmas.Option.{slice_get-get_or, slice_get_within}
use Rattle.circuit.specs.declared.parts.Latch.{Latch}
use Rattle.pair_sets.specs.Choice.{set_at}
use Rattle.pair_sets.specs.Pairs.{has}
use Rattle.pair_sets.specs.declared.pairs.PairSet.{PairSet}
use Rattle.region_search.specs.BeginSteps.{latch_of}

-- the latch of a number
pub latch_is : (latches : List Latch) (k j : ℕ) (latch : Latch) → j ≡ k → slice_get latches j ≡ Some latch → latch_of latches k ≡ latch
latch_is latches k j latch same at =
    let few = slice_get_within latches j latch at in
    let both : Some (latch_of latches j) ≡ Some latch = sym (slice_get-get_or latches j (record { from = record { 0 = 0 }; to = record { 0 = 0 }; start = false }) few) ∙ at in
    let it : latch_of latches j ≡ latch = cc in
    ap (latch_of latches) (sym same) ∙ it

module _ (now first : List PairSet) (k : ℕ) (start : PairSet) (lt : k < length now) (rest : (j : ℕ) → k ≤ j → set_at now j ≡ set_at first j) where
  pub grown_here : set_at (set now k start) k ≡ start
  grown_here = get_or-set_same now k start (record { bits = 0 }) lt

  pub first_here : set_at now k ≡ set_at first k
  first_here = rest k (omega arith)

  pub grown_other : (j : ℕ) → j ≢ k → set_at (set now k start) j ≡ set_at now j
  grown_other j apart = get_or-set_other now k j start (record { bits = 0 }) apart

  pub not_grown : start ≡ set_at now k → set now k start ≡ now
  not_grown same = ap (set now k) same ∙ set-get_or now k (record { bits = 0 })

  pub rest_grown : (j : ℕ) → k + 1 ≤ j → set_at (set now k start) j ≡ set_at first j
  rest_grown j le = grown_other j (λ same. absurd (omega (arith, same, le))) ∙ rest j (omega (arith, le))

  -- a pair that the starts of some latch have, they keep
  pub grown_keeps : (j : ℕ) (x y : Bool) → (has (set_at now k) x y ≡ true → has start x y ≡ true) → has (set_at now j) x y ≡ true → has (set_at (set now k start) j) x y ≡ true
  grown_keeps j x y keeps e = elim (cases_eq j k) as (λ _. has (set_at (set now k start) j) x y ≡ true) [
    | inr apart ↦ ap (λ (p : PairSet). has p x y) (grown_other j apart) ∙ e
    | inl it ↦ ap (λ i. has (set_at (set now k start) i) x y) it ∙ ap (λ (p : PairSet). has p x y) grown_here ∙ keeps (ap (λ i. has (set_at now i) x y) (sym it) ∙ e)
  ]
