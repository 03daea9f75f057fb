-- Ways in a graph, one behind the other.
use Rattle.std.proofs.Common.{◌≡◌, ℕ, zero, suc, ◌+◌, ◌<◌, List, sym, subst, zero-add, length, Vec, Global, arith}
use Rattle.blif_hierarchy.specs.Components.{Reaches, Way, target, targets}

module _ (edges : List (Vec ℕ Global)) where
  pub along : (x y : ℕ) → x ≡ y → Reaches edges x y
  unfolding Way
  along x y e = (0, e)

  pub edge : (x k y : ℕ) → k < length (targets edges x) → target edges x k ≡ y → Reaches edges x y
  unfolding Way
  edge x k y lt e = (1, (k, lt, e))

  join_ways : (n m x y z : ℕ) → Way edges n x y → Way edges m y z → Way edges (n + m) x z
  unfolding Way
  join_ways zero m x y z a b = subst (λ (u : ℕ). Way edges (0 + m) u z) (sym a) (subst (λ (n : ℕ). Way edges n y z) (sym (zero-add m)) b)
  join_ways (suc n) m x y z a b =
      let e : suc (n + m) ≡ suc n + m = omega arith in
      subst (λ (l : ℕ). Way edges l x z) e (a.0, a.1, join_ways n m (target edges x a.0) y z a.2 b)

  pub join : (x y z : ℕ) → Reaches edges x y → Reaches edges y z → Reaches edges x z
  join x y z a b = (a.0 + b.0, join_ways a.0 b.0 x y z a.1 b.1)
