-- The plane of the first lanes of a batch.
use Rattle.std.proofs.Common.{◌≡◌, ℕ, zero, suc, ◌+◌, ◌*◌, ◌-◌, ◌^◌, true, false, min, ap, ap₂, sym, ◌∙◌, inl, inr, arith}
use Rattle.std.specs.Prelude.{if◌then◌else◌, nat_lt, bit_or}
use Rattle.std.proofs.lemmas.Bool.{cases_lt}
use Rattle.std.proofs.lemmas.Bool.Decides.{nat_tests}
use Rattle.std.specs.Int.Bits.{or_zero_r}
use Rattle.std.proofs.lemmas.Nat.{or_comm, or_shifted, pow_pos}
use Rattle.std.proofs.Math.Nat.{pow-suc}
use Rattle.fm_base.specs.Planes.{plane_below}

-- one lane more
one_more : (n : ℕ) → bit_or (2 ^ n - 1) (2 ^ n) ≡ 2 ^ suc n - 1
one_more n =
    let some = pow_pos n in
    let one : 1 * 2 ^ n ≡ 2 ^ n = omega arith in
    or_comm (2 ^ n - 1) (2 ^ n) ∙ ap (λ high. bit_or high (2 ^ n - 1)) (sym one) ∙ or_shifted 1 n (2 ^ n - 1) (omega arith)
    ∙ omega (arith, pow-suc 2 n, pow_pos n)

-- the lanes below n that hold faults are the first so many
pub first_lanes : (n start count : ℕ) → plane_below n (λ lane. nat_lt (start + lane) count) ≡ 2 ^ min n (count - start) - 1
unfolding plane_below
first_lanes zero start count = ap (λ k. 2 ^ k - 1) (none (count - start))
  where
    none : (m : ℕ) → 0 ≡ min 0 m
    none m = omega arith
first_lanes (suc n) start count = elim (cases_lt (start + n) count) [
  | inl lt ↦
      (let test : nat_lt (start + n) count ≡ true = grind (arith, nat_tests) in
      let before : n ≡ min n (count - start) = omega arith in
      let now : suc n ≡ min (suc n) (count - start) = omega arith in
      ap₂ (λ plane more. bit_or plane (if more then 2 ^ n else 0)) (first_lanes n start count ∙ ap (λ k. 2 ^ k - 1) (sym before)) test
      ∙ one_more n ∙ ap (λ k. 2 ^ k - 1) now)
  | inr ge ↦
      (let test : nat_lt (start + n) count ≡ false = grind (arith, nat_tests) in
      let same : min n (count - start) ≡ min (suc n) (count - start) = omega arith in
      ap₂ (λ plane more. bit_or plane (if more then 2 ^ n else 0)) (first_lanes n start count ∙ ap (λ k. 2 ^ k - 1) same) test
      ∙ or_zero_r (2 ^ min (suc n) (count - start) - 1))
]
