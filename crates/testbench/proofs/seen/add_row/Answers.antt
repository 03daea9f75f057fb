use Rattle.std.proofs.Common.{◌≡◌, ◌+◌, ◌-◌, ◌*◌, ◌/◌, ◌%◌, ◌<◌, ◌||◌, ℕ, List, length, get_or, not, ap, ap₂, ◌∙◌, arith}
use Rattle.fm_base.proofs.Bits.{bit_of_not, bit_of_or}
use Rattle.fm_base.specs.Planes.{bit}
use Rattle.place_set.specs.Places.{value_in}
use Rattle.testbench.proofs.Words.{word_left, word_more}
use Rattle.testbench.proofs.seen.add_row.Goals as goal

-- a word of a row has the values of its places
of_row : (row : List ℕ) (at k : ℕ) → k < 64 → bit (get_or row at 0) k ≡ value_in row (64 * at + k)
of_row row at k lt =
    let place : at ≡ (64 * at + k) / 64 = omega (arith, lt) in
    let lane : k ≡ (64 * at + k) % 64 = omega (arith, lt) in
    ap₂ (λ i j. bit (get_or row i 0) j) place lane

pub loop-at-preserved : goal.loop-at-preserved
loop-at-preserved c =
    let i = c.loop-at.at in
    let inv = c.loop-at.invariant in
    let row = c.args.row.now in
    let ones : List ℕ = c.loop-at.ones in
    let zeros : List ℕ = c.loop-at.zeros in
    let word = c.word_of-word.result in
    let of_word : (k : ℕ) → k < 64 → bit word k ≡ value_in row (64 * i + k) = λ k lt. ap (λ w. bit w k) c.word_of-word.ensures ∙ of_row row i k lt in
    let in_ones : i < length ones = omega (arith, c.loop-at-test.true, c.loop-at.auto.ones) in
    let in_zeros : i < length zeros = omega (arith, in_ones, c.requires, c.loop-at.auto.zeros, c.loop-at.auto.ones) in
    record {
      ones_done = word_more ones i _ (value_in row) (value_in c.args.ones.now) in_ones
          (λ k lt. bit_of_or (get_or ones i 0) word k ∙ ap (λ b. bit (get_or ones i 0) k || b) (of_word k lt)) inv.ones_done inv.ones_left;
      ones_left = word_left ones i _ (value_in c.args.ones.now) inv.ones_left;
      zeros_done = word_more zeros i _ (λ net. not (value_in row net)) (value_in c.args.zeros.now) in_zeros
          (λ k lt.
          bit_of_or (get_or zeros i 0) (18446744073709551615 - word) k
          ∙ ap (λ b. bit (get_or zeros i 0) k || b) (bit_of_not word k (omega (arith, c.word_of-word.type_inv)) lt ∙ ap not (of_word k lt))) inv.zeros_done inv.zeros_left;
      zeros_left = word_left zeros i _ (value_in c.args.zeros.now) inv.zeros_left;
    }
