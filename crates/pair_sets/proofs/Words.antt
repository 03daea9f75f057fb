-- Words whose bits are choices.
use Rattle.std.proofs.Common.{◌≡◌, ◌≢◌, ◌⊎◌, inl, inr, ℕ, ◌<◌, ◌^◌, Bool, true, false, not, ◌&&◌, ◌||◌, ◌==◌, bit_and, refl, ap, ap₂, sym, ◌∙◌, w64, arith}
use Rattle.std.specs.Prelude.{if◌then◌else◌}
use Rattle.std.specs.Int.{bit_at, trailing_zeros}
use Rattle.std.proofs.lemmas.Nat.Bits.{bit_at-trailing_zeros, bit_at-zero}
use Rattle.fm_base.specs.Lists.{same_bit}
use Rattle.fm_base.specs.Planes.{bit}
use Rattle.fm_base.proofs.Bits.{bit_of_and}
use Rattle.fm_base.proofs.Tests.{and_both, both_true, clash, same_bit_true}
use Rattle.pair_sets.specs.Pairs.{has}
use Rattle.pair_sets.specs.Steps.{IsPairIn, digit_behind}
use Rattle.pair_sets.specs.declared.pairs.PairSet.{PairSet}
use Rattle.pair_sets.specs.declared.values.Values.{Values}

pub picked : (b z o : Bool) → ((z && not b) || (o && b)) ≡ (if b then o else z)
picked true true true = refl
picked true true false = refl
picked true false true = refl
picked true false false = refl
picked false true true = refl
picked false true false = refl
picked false false true = refl
picked false false false = refl

-- the row of two digits
pub row_bit : (truth : ℕ) (f s : Bool) → (if f then (if s then bit truth 3 else bit truth 2) else if s then bit truth 1 else bit truth 0) ≡ bit truth (digit_behind s (digit_behind f 0))
row_bit truth true true = refl
row_bit truth true false = refl
row_bit truth false true = refl
row_bit truth false false = refl

-- a set's pair by its two values
pub pair_bit : (pairs : PairSet) (g f : Bool)
    → (if f then (if g then has pairs true true else has pairs false true) else if g then has pairs true false else has pairs false false) ≡ has pairs g f
pair_bit pairs true true = refl
pair_bit pairs true false = refl
pair_bit pairs false true = refl
pair_bit pairs false false = refl

same_itself : (a b : Bool) → b ≡ a → same_bit a b ≡ true
same_itself true b e = e
same_itself false true e = absurd (cc)
same_itself false false e = refl

-- A WORD OF CHOICES in which a net has a pair is 0 exactly where it has it in none
module _ (choices golden_word faulty_word : ℕ) (values : Values) (a b : Bool)
    (golden_is : (k : ℕ) → k < 64 → bit golden_word k ≡ same_bit a (bit values.golden k)) (faulty_is : (k : ℕ) → k < 64 → bit faulty_word k ≡ same_bit b (bit values.faulty k)) where
  abbrev word : ℕ
  word = bit_and (bit_and choices golden_word) faulty_word

  bit_is : (k : ℕ) → k < 64 → bit word k ≡ ((bit choices k && same_bit a (bit values.golden k)) && same_bit b (bit values.faulty k))
  bit_is k low =
      bit_of_and (bit_and choices golden_word) faulty_word k
      ∙ ap₂ (λ x y. x && y) (bit_of_and choices golden_word k ∙ ap (λ x. bit choices k && x) (golden_is k low)) (faulty_is k low)

  pub pair_if_some : word ≢ 0 → word < 2 ^ 64 → IsPairIn choices values a b
  pair_if_some some small =
      let positive : 0 < word = omega (arith, some) in
      let lowest = bit_at-trailing_zeros w64 word positive small in
      let k = trailing_zeros w64 word in
      let both = and_both (bit choices k && same_bit a (bit values.golden k)) (same_bit b (bit values.faulty k)) (sym (bit_is k lowest.0) ∙ ap (λ n. n == 1) lowest.1) in
      let one = and_both (bit choices k) (same_bit a (bit values.golden k)) both.0 in
      record {
        choice = k;
        low = lowest.0;
        among = one.0;
        golden_is = sym (same_bit_true a (bit values.golden k) one.1);
        faulty_is = sym (same_bit_true b (bit values.faulty k) both.1);
      }

  pub some_if_pair : word ≡ 0 → IsPairIn choices values a b → ⊥
  some_if_pair none at =
      clash (bit word at.choice)
      (bit_is at.choice at.low
      ∙ both_true (bit choices at.choice && same_bit a (bit values.golden at.choice)) (same_bit b (bit values.faulty at.choice))
      (both_true (bit choices at.choice) (same_bit a (bit values.golden at.choice)) at.among (same_itself a (bit values.golden at.choice) at.golden_is))
      (same_itself b (bit values.faulty at.choice) at.faulty_is))
      (ap (λ n. bit n at.choice) none ∙ ap (λ n. n == 1) (bit_at-zero at.choice))
