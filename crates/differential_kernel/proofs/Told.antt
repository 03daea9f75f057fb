-- What nets are shown to differ in, where their values tell it.
use Rattle.std.proofs.Common.{◌≡◌, ℕ, ◌<◌, ◌&&◌, inl, inr, cond, Bool, true, false, List, [], map, get_or, refl, ap, ◌∙◌, arith}
use Rattle.std.specs.List.{range_with_len}
use Rattle.std.proofs.lemmas.List.FromFn.{get_or-map-range_with_len}
use Rattle.std.proofs.lemmas.Bool.{cases_Bool}
use Rattle.circuit.specs.Value.{bit_at}
use Rattle.golden_difference.proofs.Exclusive.{either_none}
use Rattle.lane_words.specs.Bits.{either}
use Rattle.lane_words.specs.Gates.{plane}
use Rattle.place_set.specs.Places.{Places, has, value_in}
use Rattle.differential_kernel.specs.declared.shown.ShownNets.{ShownNets}
use Rattle.differential_kernel.specs.Differences.{AreSameOff, read_in}
use Rattle.differential_kernel.specs.Shown.{all_shown, shown_of, told_in, valued_in}

pub either_twice : (g v : Bool) → either g (either g v) ≡ v
either_twice true true = refl
either_twice true false = refl
either_twice false v = refl

module _ {W : Type 0} (bit : W → ℕ → Bool) (k : ℕ) (row : List ℕ) (set : Places) (values : List W) (n : ℕ) where
  -- outside of the set nothing differs
  pub told_out : has set n ≡ false → told_in bit k row set values n ≡ false
  told_out none = ap (λ b. b && read_in bit k row values n) none

  pub told_there : has set n ≡ true → told_in bit k row set values n ≡ read_in bit k row values n
  told_there there = ap (λ b. b && read_in bit k row values n) there

  pub valued_out : has set n ≡ false → valued_in bit k row set values n ≡ value_in row n
  valued_out none = ap (either (value_in row n)) (told_out none) ∙ either_none (value_in row n)

  pub valued_there : has set n ≡ true → valued_in bit k row set values n ≡ bit_at (plane bit k values) n
  valued_there there = ap (either (value_in row n)) (told_there there) ∙ either_twice (value_in row n) (bit_at (plane bit k values) n)

-- a value that stays as it is
pub valued_stays : {W : Type 0} (bit : W → ℕ → Bool) (k : ℕ) (row : List ℕ) (set : Places) (values new : List W) (n : ℕ)
    → bit_at (plane bit k new) n ≡ bit_at (plane bit k values) n → valued_in bit k row set new n ≡ valued_in bit k row set values n
valued_stays bit k row set values new n same = ap (λ b. either (value_in row n) (has set n && either (value_in row n) b)) same

pub told_stays : {W : Type 0} (bit : W → ℕ → Bool) (k : ℕ) (row : List ℕ) (set : Places) (values new : List W) (n : ℕ)
    → bit_at (plane bit k new) n ≡ bit_at (plane bit k values) n → told_in bit k row set new n ≡ told_in bit k row set values n
told_stays bit k row set values new n same = ap (λ b. has set n && either (value_in row n) b) same

-- the bit of a lane and a net
pub at_shown : {W : Type 0} (lanes : ℕ) (bit : W → ℕ → Bool) (count : ℕ) (nets : ShownNets W) (k n : ℕ) → k < lanes → n < count
    → bit_at (get_or (all_shown lanes bit count nets) k []) n ≡ shown_of bit nets k n
at_shown lanes bit count nets k n lt within =
    ap (λ (bits : List Bool). bit_at bits n) (get_or-map-range_with_len (λ j. map (shown_of bit nets j) (range_with_len 0 count)) 0 lanes k k [] lt (omega arith))
    ∙ get_or-map-range_with_len (shown_of bit nets k) 0 count n n false within (omega arith)

pub shown_told : {W : Type 0} (bit : W → ℕ → Bool) (nets : ShownNets W) (k n : ℕ) → nets.swept ≡ true
    → shown_of bit nets k n ≡ told_in bit k nets.row.items nets.own.touched nets.values.items n
shown_told bit nets k n is = ap (λ b. cond b (told_in bit k nets.row.items nets.own.touched nets.values.items n) (bit_at (plane bit k nets.own.words.items) n)) is

pub shown_words : {W : Type 0} (bit : W → ℕ → Bool) (nets : ShownNets W) (k n : ℕ) → nets.swept ≡ false
    → shown_of bit nets k n ≡ bit_at (plane bit k nets.own.words.items) n
shown_words bit nets k n is = ap (λ b. cond b (told_in bit k nets.row.items nets.own.touched nets.values.items n) (bit_at (plane bit k nets.own.words.items) n)) is

-- a net that isn't touched isn't shown to differ
pub shown_off : {W : Type 0} (lanes : ℕ) (bit : W → ℕ → Bool) (nets : ShownNets W) (n : ℕ) → AreSameOff lanes bit nets.own.touched nets.own.words.items → has nets.own.touched n ≡ false
    → (k : ℕ) → k < lanes → shown_of bit nets k n ≡ false
shown_off lanes bit nets n same none k lt =
    elim (cases_Bool nets.swept) [
      | inl is ↦ shown_told bit nets k n is ∙ told_out bit k nets.row.items nets.own.touched nets.values.items n none
      | inr apart ↦ shown_words bit nets k n apart ∙ same n none k lt
    ]
