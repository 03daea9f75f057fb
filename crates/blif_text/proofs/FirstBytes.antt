-- Where the first byte or item that passes stands, from what a search says.
use Rattle.std.proofs.Common.{◌≡◌, ℕ, ◌<◌, ◌≤◌, not, true, false, cond, refl, sym, arith, Bool, List, length}
use Rattle.std.specs.Prelude.{Some, None, nat_lt}
use Rattle.std.specs.List.{position, position_or_len}
use Rattle.std.specs.Option.{unwrap_or}
use Rattle.std.proofs.lemmas.Bool.{false_from_ne_true, ltb-false}
use Rattle.std.proofs.lemmas.List.Sums.{position_or_len_is, prefix_len-le-length}
use Rattle.memchr.specs.Find.{NoneBefore, Nowhere, Passes}

-- memchr found a place
pub first_here : (p : ℕ → Bool) (xs : List ℕ) (k : ℕ) → NoneBefore (Passes p xs) 0 (length xs) k → Passes p xs k → k ≡ position_or_len p xs
first_here p xs k none at =
    let lt : k < length xs = none.high in
    sym (position_or_len_is p xs k 0 (omega arith) (λ j l. false_from_ne_true _ (none.before j (omega arith) l)) (λ h. at))

-- it found none
pub first_nowhere : (p : ℕ → Bool) (xs : List ℕ) → Nowhere (Passes p xs) 0 (length xs) → length xs ≡ position_or_len p xs
first_nowhere p xs none =
    sym (position_or_len_is p xs (length xs) 0 (omega arith) (λ j l. false_from_ne_true _ (none j (omega arith) l))
    (λ h. absurd (omega arith)))

-- the place of the first item that passes, or the length where there is none
pub place_or_len : {X : Type 0} (p : X → Bool) (xs : List X) → unwrap_or (position p xs) (length xs) ≡ position_or_len p xs
place_or_len p xs =
    by_cases (nat_lt (position_or_len p xs) (length xs)) (prefix_len-le-length (λ x. not (p x)) xs)
    (ltb-false (position_or_len p xs) (length xs))
  where
    by_cases : (b : Bool) → position_or_len p xs ≤ length xs → (b ≡ false → length xs ≤ position_or_len p xs)
        → unwrap_or (cond b (Some (position_or_len p xs)) None) (length xs) ≡ position_or_len p xs
    by_cases true low high = refl
    by_cases false low high = let up = high refl in omega arith
