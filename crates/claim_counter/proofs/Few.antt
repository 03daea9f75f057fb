-- A list of distinct numbers below m has at most m of them.
use Rattle.std.proofs.Common.{◌≡◌, ℕ, zero, suc, ◌+◌, ◌≤◌, ◌==◌, Bool, true, false, cond, not, List, [], ◌∷◌, length, refl, arith, filter}
use Rattle.std.proofs.lemmas.List.Sums.{sum_by-cons, length-filter}
use Rattle.std.proofs.lemmas.List.Filters.{length-filter_both}
use Rattle.std.proofs.lemmas.Bool.Decides.{nat_tests}
use Rattle.campaign_core.specs.Machines.{times, once_below}

pub times-cons : (x y : ℕ) (ys : List ℕ) → times x (y ∷ ys) ≡ cond (y == x) 1 0 + times x ys
times-cons x y ys = sum_by-cons (λ y. cond (y == x) 1 0) y ys

-- how often x stands in the list without m
times-keeps : (x m y : ℕ) (ys : List ℕ) (b : Bool) → (y == m) ≡ b → times x (filter (λ y. not (y == m)) ys) ≤ cond (x == m) 0 (times x ys) → times x (cond (not b) (y ∷ filter (λ y. not (y == m)) ys) (filter (λ y. not (y == m)) ys)) ≤ cond (x == m) 0 (times x (y ∷ ys))
times-keeps x m y ys true is rest = grind (arith, nat_tests, times-cons x y ys)
times-keeps x m y ys false is rest = grind (arith, nat_tests, times-cons x y ys, times-cons x y (filter (λ y. not (y == m)) ys))

times-without : (x m : ℕ) (xs : List ℕ) → times x (filter (λ y. not (y == m)) xs) ≤ cond (x == m) 0 (times x xs)
times-without x m [] = grind (arith, nat_tests)
times-without x m (y ∷ ys) = times-keeps x m y ys (y == m) refl (times-without x m ys)

-- a list without a number twice, all below m, has at most m numbers
pub few : (m : ℕ) (xs : List ℕ) → ((x : ℕ) → times x xs ≤ once_below x m) → length xs ≤ m
few zero [] h = omega arith
few zero (x ∷ xs) h = let a = h x in absurd (grind (arith, nat_tests, times-cons x x xs))
few (suc m) xs h =
    let ys = filter (λ y. not (y == m)) xs in
    let rest = few m ys (λ x. let a = h x in let b = times-without x m xs in grind (arith, nat_tests)) in
    let both = length-filter_both (λ y. y == m) (λ y. not (y == m)) (λ y. refl) xs in
    let one = h m in
    let here : length (filter (λ y. y == m) xs) ≡ times m xs = length-filter (λ y. y == m) xs in
    grind (arith, nat_tests)
