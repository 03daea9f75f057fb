-- Fractions, compared.
use Rattle.std.proofs.Common.{◌≡◌, refl, ℕ, zero, suc, ◌+◌, ◌-◌, ◌*◌, ◌<◌, ◌≤◌, false, arith}
use Rattle.std.specs.Prelude.{Some, None, ◌==◌}
use Rattle.std.proofs.Math.Nat.{mul-le-mul, mul-le-mul_left, mul-le-mul_right, mul-sub, mul-add, mul_comm}
use Rattle.metric_sums.specs.declared.Fraction.{Fraction}
use Rattle.metric_sums.specs.Metrics.{fraction}

-- ---- whether there is a fraction

pub fraction_there : (num den : ℕ) → 0 < den → fraction num den ≡ Some (record { num = num; den = den })
fraction_there num den lt = let some : (den == 0) ≡ false = grind (arith, lt) in rw some refl

pub fraction_none : (num : ℕ) → fraction num 0 ≡ None
fraction_none num = refl

pub record IsFraction (num den : ℕ) (q : Fraction) : Type 0 where
  pub some : 0 < den
  pub is : q ≡ record { num = num; den = den }

pub fraction_is : (num den : ℕ) (q : Fraction) → fraction num den ≡ Some q → IsFraction num den q
fraction_is num zero q e = absurd (cc)
fraction_is num (suc den) q e = record { some = omega arith; is = (let there = fraction_there num (suc den) (omega arith) in cc) }

-- ---- what is left of a whole

-- less is lost of one whole than of another, in proportion, so more is left
pub more_left : (r l r' l' : ℕ) → l' * r ≤ l * r' → (r - l) * r' ≤ (r' - l') * r
more_left r l r' l' less =
    omega (arith, mul-sub r' r l, mul-sub r r' l', mul_comm (r - l) r', mul_comm (r' - l') r, mul_comm r r', mul_comm r' l, mul_comm r l', less)

-- more is lost of a smaller whole
pub lost_more : (r l r' l' : ℕ) → l' ≤ l → r ≤ r' → l' * r ≤ l * r'
lost_more r l r' l' few small = mul-le-mul few small

-- what moves from the rest of a whole to what is lost makes it the most that is lost, in proportion
pub most_lost : (r l most_r most_l moved : ℕ) → l ≤ r → l + moved ≤ most_l → most_r ≤ r + moved → l * most_r ≤ most_l * r
most_lost r l most_r most_l moved less more room =
    let wide : l * most_r ≤ l * (r + moved) = mul-le-mul_left l room in
    let moves : l * moved ≤ r * moved = mul-le-mul_right moved less in
    let lost : (l + moved) * r ≤ most_l * r = mul-le-mul_right r more in
    omega (arith, wide, mul-add l r moved, moves, lost, mul_comm (l + moved) r, mul-add r l moved, mul_comm l r)
