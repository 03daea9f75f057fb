-- The bits of what an operation on words gives.
use Rattle.std.proofs.Common.{◌≡◌, inl, inr, ℕ, zero, suc, ◌+◌, ◌-◌, ◌*◌, ◌^◌, ◌/◌, ◌%◌, ◌<◌, List, [], ◌∷◌, length, get_or, ◌==◌, Bool, true, false, cond, bit_and, bit_or, bit_xor, refl, ap, ◌∙◌, w64, arith}
use Rattle.std.specs.Int.{bit_at}
use Rattle.std.specs.Simd.Lanes.{zip2}
use Rattle.std.proofs.lemmas.Nat.Bits.{bit_at_xor, bit_at-lt, bit_at_ones, bit_at_set_same, bit_at_set_other, bit_at_clear_same, bit_at_clear_other}
use Rattle.std.proofs.lemmas.Bool.{cases_eq, eq-eqb, ne_eqb}
use Rattle.fm_base.specs.Planes.{bit}
use Rattle.lane_words.specs.Bits.{either, quad_bit}

xor_bits : (x y : ℕ) → x < 2 → y < 2 → ((x + y) % 2 == 1) ≡ either (x == 1) (y == 1)
xor_bits zero zero p q = refl
xor_bits zero (suc zero) p q = refl
xor_bits (suc zero) zero p q = refl
xor_bits (suc zero) (suc zero) p q = refl
xor_bits (suc (suc x)) y p q = absurd (omega arith)
xor_bits x (suc (suc y)) p q = absurd (omega arith)

pub bit_of_xor : (a b k : ℕ) → bit (bit_xor a b) k ≡ either (bit a k) (bit b k)
bit_of_xor a b k = ap (λ n. n == 1) (bit_at_xor a b k) ∙ xor_bits (bit_at a k) (bit_at b k) (bit_at-lt a k) (bit_at-lt b k)

pub bit_of_ones : (k : ℕ) → k < 64 → bit 18446744073709551615 k ≡ true
bit_of_ones k lt = ap (λ n. n == 1) (bit_at_ones 64 k lt)

pub bit_of_set : (a lane k : ℕ) (value : Bool) → value ≡ true → lane < 64 → k < 64
    → bit (bit_or a (1 * 2 ^ lane % 18446744073709551616)) k ≡ cond (k == lane) value (bit a k)
bit_of_set a lane k value is within lt =
    elim (cases_eq k lane) [
      | inl same ↦ rw (same, is, eq-eqb lane lane refl) (ap (λ n. n == 1) (bit_at_set_same w64 a lane within))
      | inr other ↦ rw (ne_eqb k lane other) (ap (λ n. n == 1) (bit_at_set_other w64 a lane within k other))
    ]

pub bit_of_clear : (a lane k : ℕ) (value : Bool) → value ≡ false → lane < 64 → k < 64
    → bit (bit_and a (18446744073709551615 - 1 * 2 ^ lane % 18446744073709551616)) k ≡ cond (k == lane) value (bit a k)
bit_of_clear a lane k value is within lt =
    elim (cases_eq k lane) [
      | inl same ↦ rw (same, is, eq-eqb lane lane refl) (ap (λ n. n == 1) (bit_at_clear_same w64 a lane within))
      | inr other ↦ rw (ne_eqb k lane other) (ap (λ n. n == 1) (bit_at_clear_other w64 a lane within k lt other))
    ]

zip2_at : (f : ℕ → ℕ → ℕ) (xs ys : List ℕ) (i : ℕ) → i < length xs → i < length ys → get_or (zip2 f xs ys) i 0 ≡ f (get_or xs i 0) (get_or ys i 0)
zip2_at f [] ys i p q = absurd (omega arith)
zip2_at f (x ∷ xs) [] i p q = absurd (omega arith)
zip2_at f (x ∷ xs) (y ∷ ys) zero p q = refl
zip2_at f (x ∷ xs) (y ∷ ys) (suc i) p q = zip2_at f xs ys i (omega arith) (omega arith)

-- what holds of the bits of words holds of those of four words
pub quad_zip : (f : ℕ → ℕ → ℕ) (g : Bool → Bool → Bool) → ((a b k : ℕ) → bit (f a b) k ≡ g (bit a k) (bit b k))
    → (xs ys : List ℕ) → length xs ≡ 4 → length ys ≡ 4 → (k : ℕ) → k < 256 → quad_bit (zip2 f xs ys) k ≡ g (quad_bit xs k) (quad_bit ys k)
quad_zip f g each xs ys m n k lt =
    ap (λ w. bit w (k % 64)) (zip2_at f xs ys (k / 64) (omega arith) (omega arith)) ∙ each (get_or xs (k / 64) 0) (get_or ys (k / 64) 0) (k % 64)
