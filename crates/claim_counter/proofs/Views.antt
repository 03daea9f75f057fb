-- Sums over views, and facts of each view, after a change of one; and how often a number stands in a list.
use Rattle.std.proofs.Common.{◌≡◌, ℕ, zero, suc, ◌+◌, ◌<◌, ◌≤◌, ◌==◌, Bool, true, false, cond, List, [], ◌∷◌, ◌++◌, set, sym, ap, ◌∙◌, subst, arith, ⊎_elim}
use Rattle.std.specs.List.{sum_by}
use Rattle.std.proofs.lemmas.List.Sums.{sum_by-cons, sum_by_push, sum_by-append}
use Rattle.std.proofs.lemmas.Bool.Decides.{nat_tests}
use mathlib.Core.Option.{some, some-injective, some-ne-none}
use lib.ListN.{get_elem?}
use Rattle.atomic_table.proofs.Lists.{at_set, at_snoc}
use Rattle.std.proofs.lemmas.Bool.{false≢true}
use Rattle.campaign_core.specs.Machines.{times, once_below}

-- a sum after one view was changed
pub sum_at : {A : Type 0} (f : A → ℕ) (xs : List A) (i : ℕ) (v w : A) → get_elem? xs i ≡ some v → sum_by f (set xs i w) + f v ≡ sum_by f xs + f w
sum_at f [] i v w e = absurd (some-ne-none v (sym e))
sum_at f (x ∷ xs) zero v w e =
    let same : f x ≡ f v = ap f (some-injective x v e) in
    omega (arith, sum_by-cons f x xs, sum_by-cons f w xs)
sum_at f (x ∷ xs) (suc i) v w e =
    let rest = sum_at f xs i v w e in
    omega (arith, sum_by-cons f x xs, sum_by-cons f x (set xs i w))

-- a sum that the changed view leaves as it was
pub sum_same : {A : Type 0} (f : A → ℕ) (xs : List A) (i : ℕ) (v w : A) → get_elem? xs i ≡ some v → f w ≡ f v → sum_by f (set xs i w) ≡ sum_by f xs
sum_same f xs i v w e same = omega (arith, sum_at f xs i v w e)

-- one view is at most the sum
pub le_sum : {A : Type 0} (f : A → ℕ) (xs : List A) (i : ℕ) (v : A) → get_elem? xs i ≡ some v → f v ≤ sum_by f xs
le_sum f [] i v e = absurd (some-ne-none v (sym e))
le_sum f (x ∷ xs) zero v e =
    let same : f x ≡ f v = ap f (some-injective x v e) in omega (arith, sum_by-cons f x xs)
le_sum f (x ∷ xs) (suc i) v e = let rest = le_sum f xs i v e in omega (arith, sum_by-cons f x xs)

-- a fact of each view after one was changed
pub each_set : {A : Type 0} (P : A → Type 0) (xs : List A) (i : ℕ) (w : A) → P w → ((j : ℕ) (v : A) → get_elem? xs j ≡ some v → P v) → (j : ℕ) (v : A) → get_elem? (set xs i w) j ≡ some v → P v
each_set P xs i w new old j v e = ⊎_elim (λ t. subst P t.1 new) (λ t. old j v t.1) (at_set xs i j w v e)

-- how often a number stands in a list that one more was appended to, and in two lists
pub times-snoc : (x : ℕ) (xs : List ℕ) (y : ℕ) → times x (xs ++ y ∷ []) ≡ times x xs + cond (y == x) 1 0
times-snoc x xs y = sum_by_push (λ y. cond (y == x) 1 0) xs y

-- the numbers below n + 1 are those below n, and n
pub once_more : (x n : ℕ) → once_below x (n + 1) ≡ once_below x n + cond (n == x) 1 0
once_more x n = grind (arith, nat_tests)

-- a fact of each view after one was added
pub each_snoc : {A : Type 0} (P : A → Type 0) (xs : List A) (w : A) → P w → ((j : ℕ) (v : A) → get_elem? xs j ≡ some v → P v) → (j : ℕ) (v : A) → get_elem? (xs ++ w ∷ []) j ≡ some v → P v
each_snoc P xs w new old j v e = ⊎_elim (λ t. old j v t) (λ t. subst P t new) (at_snoc xs w v j e)

pub times-append : (x : ℕ) (xs ys : List ℕ) → times x (xs ++ ys) ≡ times x xs + times x ys
times-append x xs ys = sum_by-append (λ y. cond (y == x) 1 0) xs ys

-- a sum after one view was changed and another set to nothing
pub sum_joined : {A : Type 0} (f : A → ℕ) (xs : List A) (i j : ℕ) (v w both spent : A) → get_elem? xs i ≡ some v → get_elem? (set xs i both) j ≡ some w
    → sum_by f (set (set xs i both) j spent) + (f v + f w) ≡ sum_by f xs + (f both + f spent)
sum_joined f xs i j v w both spent at there = let a = sum_at f xs i v both at in let b = sum_at f (set xs i both) j w spent there in omega arith

-- a bit is one thing only
pub false_true : {X : Type 0} (b : Bool) → b ≡ false → b ≡ true → X
false_true b f t = absurd (false≢true (sym f ∙ t))

-- a number that was appended stands in the list
pub claimed_self : (n : ℕ) (xs : List ℕ) → 0 < times n (xs ++ n ∷ [])
claimed_self n xs = grind (arith, nat_tests, times-snoc n xs n)
