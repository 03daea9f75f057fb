-- The bits of planes that are added to.
use Rattle.std.proofs.Common.{◌≡◌, ◌≢◌, ℕ, ◌*◌, ◌^◌, ◌%◌, ◌<◌, Bool, true, false, ◌&&◌, ◌||◌, Option, Some, None, is_some, inl, inr, bit_or, refl, ap, sym, ◌∙◌, subst}
use Rattle.std.specs.Prelude.{◌==◌}
use Rattle.std.proofs.lemmas.Bool.{cases_eq, eq-eqb, ne_eqb, true≢false}
use Rattle.fm_base.specs.Planes.{bit}
use Rattle.place_set.proofs.Masks.{set_bit, set_bit_other}

pub or_and_false : (x l : Bool) → (x || (false && l)) ≡ x
or_and_false true l = refl
or_and_false false l = refl

-- a lane of its own, and each other
pub one_lane : (x l : Bool) (lane : ℕ) → (x || (lane == lane && l)) ≡ (x || l)
one_lane x l lane = ap (λ b. x || (b && l)) (eq-eqb lane lane refl)

pub other_lane : (x l : Bool) (lane k : ℕ) → lane ≢ k → (x || (lane == k && l)) ≡ x
other_lane x l lane k apart = ap (λ b. x || (b && l)) (ne_eqb lane k apart) ∙ or_and_false x l

or_true : (x : Bool) → true ≡ (x || true)
or_true true = refl
or_true false = refl

pub with_bit : (plane lane k : ℕ) → lane < 64 → k < 64 → bit (bit_or plane (1 * 2 ^ lane % 18446744073709551616)) k ≡ (bit plane k || (lane == k && true))
with_bit plane lane k lt small =
    elim (cases_eq k lane) [
      | inl same ↦ subst (λ (j : ℕ). bit (bit_or plane (1 * 2 ^ lane % 18446744073709551616)) j ≡ (bit plane j || (lane == j && true))) (sym same)
          (set_bit plane lane lt ∙ or_true (bit plane lane) ∙ sym (one_lane (bit plane lane) true lane))
      | inr apart ↦ set_bit_other plane lane k lt apart ∙ sym (other_lane (bit plane k) true lane k (λ e. apart (sym e)))
    ]

pub without_bit : (x : Bool) (lane k : ℕ) → x ≡ (x || (lane == k && false))
without_bit x lane k = pick x (lane == k)
  where
    pick : (x b : Bool) → x ≡ (x || (b && false))
    pick true b = refl
    pick false true = refl
    pick false false = refl

-- neither of two
pub neither : (a b : Bool) → (a || b) ≡ false → (a ≡ false) × (b ≡ false)
neither true b e = absurd (true≢false e)
neither false b e = (refl, e)

pub none_of : (o : Option ℕ) → is_some o ≡ false → o ≡ None
none_of None e = refl
none_of (Some t) e = absurd (true≢false e)
