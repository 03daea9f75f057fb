-- Lists of numbers that rise, as a range that was filtered, and where a number stands in one.
use Rattle.std.proofs.Common.{◌≡◌, ℕ, zero, suc, ◌+◌, ◌<◌, ◌≤◌, ◌==◌, ◌⊎◌, Bool, true, false, cond, not, List, [], ◌∷◌, length, get_or, refl, ap, ◌∙◌, inl, inr, arith, filter}
use Rattle.std.specs.List.{range_with_len, position_or_len}
use Rattle.std.proofs.lemmas.Bool.{ne_eqb, eq-eqb}

-- each number is above the one before it, and the first is at least low
pub IsRising : ℕ → List ℕ → Type 0
IsRising low [] = Unit {0}
IsRising low (x ∷ xs) = (low ≤ x) × IsRising (x + 1) xs

rising_lower : (low now : ℕ) (xs : List ℕ) → now ≤ low → IsRising low xs → IsRising now xs
unfolding IsRising
rising_lower low now [] le h = tt
rising_lower low now (x ∷ xs) le h = (omega (arith, h.0), h.1)

rising_cond : (low : ℕ) (xs : List ℕ) (b : Bool) → IsRising (low + 1) xs → IsRising low (cond b (low ∷ xs) xs)
unfolding IsRising
rising_cond low xs true h = (omega arith, h)
rising_cond low xs false h = rising_lower (low + 1) low xs (omega arith) h

-- the numbers of a range that pass a test
pub rising_filter : (p : ℕ → Bool) (low n : ℕ) → IsRising low (filter p (range_with_len low n))
unfolding IsRising
rising_filter p low zero = tt
rising_filter p low (suc n) = rising_cond low (filter p (range_with_len (low + 1) n)) (p low) (rising_filter p (low + 1) n)

pub rising_least : (low : ℕ) (xs : List ℕ) → IsRising low xs → (k : ℕ) → k < length xs → low ≤ get_or xs k 0
unfolding IsRising
rising_least low [] h k lt = absurd (omega arith)
rising_least low (x ∷ xs) h zero lt = h.0
rising_least low (x ∷ xs) h (suc k) lt = let rest = rising_least (x + 1) xs h.1 k (omega arith) in omega (arith, h.0, rest)

pub rising_order : (low : ℕ) (xs : List ℕ) → IsRising low xs → (i j : ℕ) → i ≤ j → j < length xs → get_or xs i 0 ≤ get_or xs j 0
unfolding IsRising
rising_order low [] h i j le lt = absurd (omega arith)
rising_order low (x ∷ xs) h zero zero le lt = omega arith
rising_order low (x ∷ xs) h zero (suc j) le lt = let rest = rising_least (x + 1) xs h.1 j (omega arith) in omega (arith, rest)
rising_order low (x ∷ xs) h (suc i) zero le lt = absurd (omega arith)
rising_order low (x ∷ xs) h (suc i) (suc j) le lt = rising_order (x + 1) xs h.1 i j (omega arith) (omega arith)

-- a number stands at its place and at no earlier one
pub rising_place : (low : ℕ) (xs : List ℕ) → IsRising low xs → (k : ℕ) → k < length xs → position_or_len (λ other. other == get_or xs k 0) xs ≡ k
unfolding IsRising
rising_place low [] h k lt = absurd (omega arith)
rising_place low (x ∷ xs) h zero lt = ap (λ (b : Bool). cond {A = ℕ} (not b) (1 + position_or_len (λ other. other == x) xs) 0) (eq-eqb x x refl)
rising_place low (x ∷ xs) h (suc k) lt =
    let least = rising_least (x + 1) xs h.1 k (omega arith) in
    let other : (x == get_or xs k 0) ≡ false = ne_eqb x (get_or xs k 0) (λ e. absurd (omega arith)) in
    let rest = rising_place (x + 1) xs h.1 k (omega arith) in
    let skip = ap (λ (b : Bool). cond {A = ℕ} (not b) (1 + position_or_len (λ other. other == get_or xs k 0) xs) 0) other in
    skip ∙ omega (arith, rest)

-- a number stands somewhere in a list
abbrev pub StandsIn : ℕ → List ℕ → Type 0
StandsIn x xs = (k : ℕ) × (k < length xs) × (get_or xs k 0 ≡ x)

stands_first : (x low : ℕ) (rest : List ℕ) (b : Bool) → b ≡ true → low ≡ x → StandsIn x (cond b (low ∷ rest) rest)
stands_first x low rest true t e = (0, omega arith, e)
stands_first x low rest false t e = absurd (cc)

stands_later : (x low : ℕ) (rest : List ℕ) (b : Bool) → StandsIn x rest → StandsIn x (cond b (low ∷ rest) rest)
stands_later x low rest true found = (suc found.0, omega (arith, found.1), found.2)
stands_later x low rest false found = found

-- a number of the range that passes stands somewhere
pub filter_has : (p : ℕ → Bool) (low n x : ℕ) → low ≤ x → x < low + n → p x ≡ true → StandsIn x (filter p (range_with_len low n))
filter_has p low zero x le lt pass = absurd (omega arith)
filter_has p low (suc n) x le lt pass =
    let rest : List ℕ = filter p (range_with_len (low + 1) n) in
    let split : (low ≡ x) ⊎ (low + 1 ≤ x) = grind arith in
    elim split as (λ _. StandsIn x (filter p (range_with_len low (suc n)))) [
      | inl e ↦ stands_first x low rest (p low) (ap p e ∙ pass) e
      | inr later ↦ stands_later x low rest (p low) (filter_has p (low + 1) n x later (omega arith) pass)
    ]
