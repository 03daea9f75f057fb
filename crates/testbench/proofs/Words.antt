-- Words of bits, of which one gets more.
use Rattle.std.proofs.Common.{◌≡◌, ◌≢◌, ℕ, ◌+◌, ◌*◌, ◌/◌, ◌%◌, ◌<◌, ◌≤◌, Bool, ◌||◌, List, length, get_or, set, inl, inr, ap, ap₂, sym, ◌∙◌, arith, get_or-set_other, get_or-set_same}
use Rattle.std.proofs.lemmas.Bool.{cases_eq}
use Rattle.fm_base.specs.Planes.{bit}
use Rattle.place_set.specs.Places.{value_in}

-- where one word has more bits, the values of its places do, and all others stay
pub word_more : (words : List ℕ) (at word : ℕ) (more old : ℕ → Bool) → at < length words
    → ((k : ℕ) → k < 64 → bit word k ≡ (bit (get_or words at 0) k || more (64 * at + k)))
    → ((net : ℕ) → net / 64 < at → value_in words net ≡ (old net || more net))
    → ((net : ℕ) → at ≤ net / 64 → value_in words net ≡ old net)
    → (net : ℕ) → net / 64 < at + 1 → value_in (set words at word) net ≡ (old net || more net)
word_more words at word more old lt bits done left net within =
    elim (cases_eq (net / 64) at) [
      | inl same ↦
          let number : 64 * at + net % 64 ≡ net = omega (arith, same) in
          let small : net % 64 < 64 = omega arith in
          let own : at ≤ net / 64 = omega (arith, same) in
          ap (λ i. bit (get_or (set words at word) i 0) (net % 64)) same
          ∙ ap (λ w. bit w (net % 64)) (get_or-set_same words at word 0 lt)
          ∙ bits (net % 64) small
          ∙ ap₂ (λ a b. a || b) (ap (λ i. bit (get_or words i 0) (net % 64)) (sym same) ∙ left net own) (ap more number)
      | inr apart ↦ ap (λ w. bit w (net % 64)) (get_or-set_other words at (net / 64) word 0 apart) ∙ done net (omega (arith, within, apart))
    ]

pub word_left : (words : List ℕ) (at word : ℕ) (old : ℕ → Bool) → ((net : ℕ) → at ≤ net / 64 → value_in words net ≡ old net)
    → (net : ℕ) → at + 1 ≤ net / 64 → value_in (set words at word) net ≡ old net
word_left words at word old left net past =
    let apart : net / 64 ≢ at = omega (arith, past) in
    ap (λ w. bit w (net % 64)) (get_or-set_other words at (net / 64) word 0 apart) ∙ left net (omega (arith, past))
