-- A binary search for the number of a batch.
use Rattle.std.proofs.Common.{◌≡◌, ℕ, ◌<◌, ◌≤◌, List, length, get_or, Result, Ok, Err, sym, ap, subst, ◌∙◌, inl, inr, arith}
use Rattle.std.specs.Result.{MatchResult}
use Rattle.std.specs.Ordering.{nat_cmp}
use Rattle.std.specs.List.Sorted.{IsBinarySearchResult}
use Rattle.std.proofs.lemmas.Bool.{cases_lt}
use Rattle.std.proofs.lemmas.List.Sorted.{searched}
use Rattle.campaign_board.specs.Boards.{Start}
use Rattle.campaign_board.specs.Missing.{batches_missing, IsMissing, claim_number}
use Rattle.campaign_board.proofs.Numbering.{missing_order, number_back, batch_back}

abbrev Found : List ℕ → ℕ → Result ℕ ℕ → Type 0
Found xs x r = MatchResult r (λ i. (i < length xs) × (get_or xs i 0 ≡ x)) (λ i. (i ≤ length xs) × ((k : ℕ) → k < i → get_or xs k 0 < x) × ((k : ℕ) → i ≤ k → k < length xs → x < get_or xs k 0))

found : (o : Start) (batch : ℕ) (todo : List ℕ) (r : Result ℕ ℕ) → todo ≡ batches_missing o → IsBinarySearchResult (λ y. nat_cmp y batch) todo r → Found (batches_missing o) batch r
found o batch todo r e says = subst (λ xs. Found xs batch r) e (searched todo batch r says (λ i j le lt. subst (λ xs. get_or xs i 0 ≤ get_or xs j 0) (sym e) (missing_order o i j le (subst (λ xs. j < length xs) e lt))))

-- the place that was found is the number
pub searched_number : (o : Start) (batch : ℕ) (todo : List ℕ) (r : Result ℕ ℕ) (number : ℕ) → todo ≡ batches_missing o → IsMissing o batch → r ≡ Ok number
    → IsBinarySearchResult (λ y. nat_cmp y batch) todo r → number ≡ claim_number o batch
searched_number o batch todo r number e due is says =
    let at = subst (Found (batches_missing o) batch) is (found o batch todo r e says) in
    sym (number_back o number at.0) ∙ ap (claim_number o) at.1

-- a batch to do is found
pub not_missed : (o : Start) (batch : ℕ) (todo : List ℕ) (r : Result ℕ ℕ) (place : ℕ) → todo ≡ batches_missing o → IsMissing o batch → r ≡ Err place
    → IsBinarySearchResult (λ y. nat_cmp y batch) todo r → ⊥
not_missed o batch todo r place e due is says =
    let none = subst (Found (batches_missing o) batch) is (found o batch todo r e says) in
    let back = batch_back o batch due in
    let here = back.1 in
    elim (cases_lt (claim_number o batch) place) as (λ _. ⊥) [
      | inl before ↦ (let less = none.1 (claim_number o batch) before in omega (arith, less, here))
      | inr after ↦ (let more = none.2 (claim_number o batch) after back.0 in omega (arith, more, here))
    ]
