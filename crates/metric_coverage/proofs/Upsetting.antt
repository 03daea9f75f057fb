-- How many cycles of a list are below a bound, and what the runs of the mission add up to.
use Rattle.std.proofs.Common.{◌≡◌, ◌∙◌, subst, ap, refl, ℕ, zero, suc, ◌+◌, ◌-◌, ◌<◌, ◌≤◌, Bool, true, false, cond, List, [], ◌∷◌, ◌++◌, length, get_or, take, drop, add-one, arith}
use Rattle.std.specs.Prelude.{not, nat_lt, slice_index, slice_get, filter, sum_by, count_by, All, Some}
use Rattle.std.specs.List.Sorted.{IsStrictlyIncreasing}
use Rattle.std.proofs.lemmas.List.{get_or-drop, get_or_default, length-drop}
use Rattle.std.proofs.lemmas.List.Elements.{All-from_get_or, All-head, All-tail, filter_more}
use Rattle.std.proofs.lemmas.List.Filters.{sum_by-filter_both}
use Rattle.std.proofs.lemmas.Option.{slice_get-get_or}
use Rattle.std.proofs.lemmas.List.Kept.{AllPairs-from_increasing}
use Rattle.std.proofs.lemmas.List.Sums.{sum_by-append, sum_by-cons, sum_by-take-drop, sum_by-take-le, sum_by_push}
use Rattle.fm_base.specs.Lists.{below}
use Rattle.fm_base.proofs.Below.{below_push}

-- ---- numbers that rise

-- what a count adds
abbrev pub one_where : Bool → ℕ
one_where b = cond b 1 0

-- none of them passes
none_passes : {X : Type 0} (p : X → Bool) (xs : List X) → All (λ x. p x ≡ false) xs → count_by p xs ≡ 0
none_passes p [] all = refl
none_passes p (x ∷ xs) all =
    let fails : p x ≡ false = All-head (λ y. p y ≡ false) x xs all in
    let here : one_where (p x) ≡ 0 = rw fails refl in
    omega (arith, sum_by-cons (λ y. one_where (p y)) x xs, none_passes p xs (All-tail (λ y. p y ≡ false) x xs all), here)

-- from the first that isn't below a bound on none is
pub stops_there : (xs : List ℕ) (bound k : ℕ) → IsStrictlyIncreasing xs → k < length xs
    → count_by (λ x. nat_lt x bound) (take k xs) ≡ k → bound ≤ get_or xs k 0 → count_by (λ x. nat_lt x bound) xs ≡ k
stops_there xs bound k rises lt before above =
    let later : All (λ x. nat_lt x bound ≡ false) (drop k xs) = All-from_get_or (λ x. nat_lt x bound ≡ false) (drop k xs) 0 behind in
    omega (arith, sum_by-take-drop (λ x. one_where (nat_lt x bound)) xs k, before, none_passes (λ x. nat_lt x bound) (drop k xs) later)
  where
    behind : (j : ℕ) → j < length (drop k xs) → nat_lt (get_or (drop k xs) j 0) bound ≡ false
    behind zero inside = let here = get_or-drop k xs 0 0 in rw here (grind (arith, above))
    behind (suc j) inside =
        let within : k + suc j < length xs = omega (arith, inside, length-drop k xs) in
        let more : get_or xs k 0 < get_or xs (k + suc j) 0 = AllPairs-from_increasing xs rises k (k + suc j) 0 (omega arith) within in
        let here = get_or-drop k xs (suc j) 0 in
        rw here (grind (arith, above, more))

-- each is at least its place
pub at_least_place : (xs : List ℕ) → IsStrictlyIncreasing xs → (k : ℕ) → k < length xs → k ≤ slice_index xs k
at_least_place xs rises zero lt = omega arith
at_least_place xs rises (suc k) lt =
    let before : k ≤ slice_index xs k = at_least_place xs rises k (omega (arith, lt)) in
    let step : slice_index xs k < slice_index xs (suc k) = subst (λ m. slice_index xs k < slice_index xs m) (add-one k) (rises k (omega (arith, lt))) in
    omega (arith, before, step)

-- each is at most the last
pub at_most_last : (xs : List ℕ) (last : ℕ) → IsStrictlyIncreasing xs → length xs ≡ last + 1 → (k : ℕ) → k < length xs → get_or xs k 0 ≤ get_or xs last 0
at_most_last xs last rises size k lt = by_place (nat_lt k last) refl
  where
    by_place : (b : Bool) → nat_lt k last ≡ b → get_or xs k 0 ≤ get_or xs last 0
    by_place true e =
        let lower : k < last = grind (arith, e) in
        omega (arith, AllPairs-from_increasing xs rises k last 0 lower (omega (arith, size)))
    by_place false e =
        let same : k ≡ last = grind (arith, e, size, lt) in
        omega (arith, ap (λ j. get_or xs j 0) same)

-- ---- runs

module _ {X : Type 0} (test : X → Bool) (f : X → ℕ) (xs : List X) where
  -- one more of those that pass
  pub passing_more : (i : ℕ) (d : X) → i < length xs
      → sum_by f (filter test (take (i + 1) xs)) ≡ sum_by f (filter test (take i xs)) + cond (test (get_or xs i d)) (f (get_or xs i d)) 0
  passing_more i d lt = ap (sum_by f) (filter_more test xs i d lt) ∙ by_test (test (get_or xs i d))
    where
      by_test : (b : Bool) → sum_by f (filter test (take i xs) ++ cond b (get_or xs i d ∷ []) []) ≡ sum_by f (filter test (take i xs)) + cond b (f (get_or xs i d)) 0
      by_test true =
          omega (arith, sum_by-append f (filter test (take i xs)) (get_or xs i d ∷ []), sum_by-cons f (get_or xs i d) [])
      by_test false = omega (arith, sum_by-append f (filter test (take i xs)) [])

  -- they are at most all
  pub passing_few : (i : ℕ) → sum_by f (filter test (take i xs)) ≤ sum_by f xs
  passing_few i = omega (arith, sum_by-filter_both test (λ x. not (test x)) (λ _. refl) f (take i xs), sum_by-take-le f xs i)

-- each is below one more than the last
pub below_last : (xs : List ℕ) (last : ℕ) → IsStrictlyIncreasing xs → Some last ≡ slice_get xs (length xs - 1)
    → (k d : ℕ) → k < length xs → get_or xs k d < last + 1
below_last xs last rises is k d lt =
    let end : ℕ = length xs - 1 in
    let size : length xs ≡ end + 1 = omega (arith, lt) in
    let there : slice_get xs end ≡ Some (get_or xs end 0) = slice_get-get_or xs end 0 (omega (arith, lt)) in
    let value : last ≡ get_or xs end 0 = cc in
    let same : get_or xs k d ≡ get_or xs k 0 = get_or_default xs k d 0 lt in
    omega (arith, value, same, at_most_last xs end rises size k lt)

-- ---- the numbers below n that pass

pub count_more : (test : ℕ → Bool) (n : ℕ) → count_by test (below (n + 1)) ≡ count_by test (below n) + cond (test n) 1 0
count_more test n =
    ap (λ m. count_by test (below m)) (add-one n) ∙ ap (count_by test) (below_push n) ∙ sum_by_push (λ x. cond (test x) 1 0) (below n) n

pub count_none : (test : ℕ → Bool) → count_by test (below 0) ≡ 0
unfolding below
count_none test = refl
