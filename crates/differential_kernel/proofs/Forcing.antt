-- Forces that leave a net as it is.
use Rattle.std.proofs.Common.{◌≡◌, inl, inr, ℕ, ◌<◌, ◌&&◌, Bool, true, false, cond, List, length, get_or, ap, sym, ◌∙◌}
use Rattle.std.proofs.lemmas.Bool.{cases_Bool, or_parts}
use Rattle.circuit.specs.Value.{bit_at}
use Rattle.golden_difference.proofs.Exclusive.{either_again, either_none, either_same}
use Rattle.lane_words.specs.Bits.{either}
use Rattle.lane_words.specs.Gates.{plane}
use Rattle.place_set.specs.Places.{Places, has, is_chosen, value_in}
use Rattle.lane_words.specs.declared.force.Force.{Force}
use Rattle.lane_words.specs.Forces.{IsIdleAt, force_value}
use Rattle.differential_kernel.specs.Differences.{read_in}
use Rattle.differential_kernel.specs.Forced.{forced_in}
use Rattle.differential_kernel.specs.Forces.{AreIdleOff, ChangeOnly}

pub forced_idle : {W : Type 0} (lanes : ℕ) (bit : W → ℕ → Bool) (k : ℕ) (row : List ℕ) (forces : List (Force W)) (d : Force W) (words : List W) (n : ℕ)
    → k < lanes → IsIdleAt lanes bit forces n → forced_in bit k row forces d words n ≡ bit_at (plane bit k words) n
forced_idle lanes bit k row forces d words n lt idle =
    ap (λ b. either b (value_in row n)) (idle k d (read_in bit k row words n) lt) ∙ either_again (value_in row n) (bit_at (plane bit k words) n)

-- two words that differ in the same
pub forced_same : {W : Type 0} (bit : W → ℕ → Bool) (k : ℕ) (row : List ℕ) (forces : List (Force W)) (d : Force W) (words more : List W) (n : ℕ)
    → bit_at (plane bit k words) n ≡ bit_at (plane bit k more) n → forced_in bit k row forces d words n ≡ forced_in bit k row forces d more n
forced_same bit k row forces d words more n same = ap (λ b. either (force_value bit k (get_or forces n d) (either (value_in row n) b)) (value_in row n)) same

-- a net that isn't chosen: its golden value isn't changed by the force on it, and it doesn't differ where it is named
pub forced_unchosen : {W : Type 0} (lanes : ℕ) (bit : W → ℕ → Bool) (k : ℕ) (row : List ℕ) (forces : List (Force W)) (d : Force W) (words : List W) (n : ℕ)
    (zeros ones named touched : Places)
    → k < lanes → n < length forces → ChangeOnly lanes bit zeros ones forces → AreIdleOff lanes bit named forces
    → (has touched n ≡ false → bit_at (plane bit k words) n ≡ false)
    → is_chosen row zeros.words ones.words named.words touched.words n ≡ false
    → forced_in bit k row forces d words n ≡ bit_at (plane bit k words) n
forced_unchosen lanes bit k row forces d words n zeros ones named touched lt within changed idle same none =
    elim (cases_Bool (has named n)) [
      | inl there ↦
          (let untouched : has touched n ≡ false = ap (λ b. b && has touched n) (sym there) ∙ parts.1 in
          let none_differs : bit_at (plane bit k words) n ≡ false = same untouched in
          ap (λ b. either (force_value bit k (get_or forces n d) (either g b)) g) none_differs
          ∙ ap (λ b. either (force_value bit k (get_or forces n d) b) g) (either_none g)
          ∙ ap (λ b. either b g) stays ∙ either_same g ∙ sym none_differs)
      | inr free ↦ forced_idle lanes bit k row forces d words n lt (idle n within free)
    ]
  where
    g : Bool
    g = value_in row n

    parts : (cond g (has ones n) (has zeros n) ≡ false) × ((has named n && has touched n) ≡ false)
    parts = or_parts _ _ none

    stays : force_value bit k (get_or forces n d) g ≡ g
    stays =
        elim (cases_Bool g) [
          | inl high ↦
              (let free : has ones n ≡ false = ap (λ b. cond b (has ones n) (has zeros n)) (sym high) ∙ parts.0 in
              ap (force_value bit k (get_or forces n d)) high ∙ changed.ones_left k n d lt within free ∙ sym high)
          | inr low ↦
              (let free : has zeros n ≡ false = ap (λ b. cond b (has ones n) (has zeros n)) (sym low) ∙ parts.0 in
              ap (force_value bit k (get_or forces n d)) low ∙ changed.zeros_left k n d lt within free ∙ sym low)
        ]
