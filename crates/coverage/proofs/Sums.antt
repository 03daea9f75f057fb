-- Sums over the numbers below a bound.
use Rattle.std.proofs.Common.{◌≡◌, ◌∙◌, sym, ℕ, zero, suc, ◌<◌, arith}
use Rattle.std.specs.Prelude.{sum_by}
use Rattle.fm_base.specs.Lists.{below}
use Rattle.fm_base.proofs.SumsBelow.{sum_by-below, sum_up, sum_up-push, sum_up-zero}

pub sum_same : (f g : ℕ → ℕ) (n : ℕ) → ((i : ℕ) → i < n → f i ≡ g i) → sum_by f (below n) ≡ sum_by g (below n)
sum_same f g n same = sum_by-below n f ∙ up n same ∙ sym (sum_by-below n g)
  where
    up : (m : ℕ) → ((i : ℕ) → i < m → f i ≡ g i) → sum_up f m ≡ sum_up g m
    up zero each = sum_up-zero f ∙ sym (sum_up-zero g)
    up (suc m) each = omega (arith, sum_up-push m f, sum_up-push m g, each m (omega arith), up m (λ i lt. each i (omega (arith, lt))))
