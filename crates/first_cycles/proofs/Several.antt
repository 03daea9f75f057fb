-- The first of several is the earliest of their first ones.
use Rattle.std.proofs.Common.{◌≡◌, ℕ, Bool, ◌||◌, List, [], ◌∷◌, map, min, inl, inr, Option, Some, None, refl, arith}
use Rattle.std.specs.List.{list_any}
use Rattle.std.proofs.lemmas.Bool.{cases_lt, or_from, or_left, or_right}
use Rattle.first_cycles.specs.FirstCycles.{FirstOfSeveral, earlier, earliest, first_below}
use Rattle.first_cycles.proofs.Firsts.{IsFirstOf, first_found, first_is}

-- the first of two tests is the earlier of both first ones
pub either_first : (n : ℕ) (f g : ℕ → Bool) (a b : Option ℕ) → IsFirstOf n f a → IsFirstOf n g b → IsFirstOf n (λ t. f t || g t) (earlier a b)
either_first n f g None None p q = λ u lt. or_from (f u) (g u) (p u lt) (q u lt)
either_first n f g None (Some u) p q = record {
  within = q.within;
  passes = or_right (f u) (g u) q.passes;
  before = λ v lt. or_from (f v) (g v) (p v (omega (arith, lt, q.within))) (q.before v lt);
}
either_first n f g (Some t) None p q = record {
  within = p.within;
  passes = or_left (f t) (g t) p.passes;
  before = λ v lt. or_from (f v) (g v) (p.before v lt) (q v (omega (arith, lt, p.within)));
}
either_first n f g (Some t) (Some u) p q = record {
  within = omega (arith, p.within);
  passes = elim (cases_lt t u) [
    | inl less ↦ (let e : min t u ≡ t = omega (arith, less) in rw e (or_left (f t) (g t) p.passes))
    | inr most ↦ (let e : min t u ≡ u = omega (arith, most) in rw e (or_right (f u) (g u) q.passes))
  ];
  before = λ v lt. or_from (f v) (g v) (p.before v (omega (arith, lt))) (q.before v (omega (arith, lt)));
}

module _ {X : Type 0} (n : ℕ) (test : X → ℕ → Bool) where
  several_first : (xs : List X) → IsFirstOf n (λ t. list_any (λ x. test x t) xs) (earliest (map (λ x. first_below n (test x)) xs))
  several_first [] = λ u lt. refl
  several_first (x ∷ xs) =
      either_first n (test x) (λ t. list_any (λ y. test y t) xs) (first_below n (test x)) (earliest (map (λ y. first_below n (test y)) xs))
      (first_is n (test x)) (several_first xs)

-- THE FIRST OF SEVERAL
pub several : FirstOfSeveral
several X cycles test xs = first_found cycles (λ t. list_any (λ x. test x t) xs) (earliest (map (λ x. first_below cycles (test x)) xs)) (several_first cycles test xs)
