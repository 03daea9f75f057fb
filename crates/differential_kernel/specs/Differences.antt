-- What nets and latches differ in, lane by lane, and where it is noted.
use Rattle.std.specs.Prelude.{◌≡◌, ℕ, ◌<◌, ◌≤◌, Bool, true, false, List, length}
use Rattle.circuit.specs.Value.{bit_at}
use Rattle.lane_words.specs.Bits.{either}
use Rattle.lane_words.specs.Gates.{plane}
use Rattle.fanout.specs.Readers.{IsReadAt, Ordered}
use Rattle.place_set.specs.Places.{Places, has, value_in}

-- nothing differs at this place, in any lane
abbrev pub IsSame : {W : Type 0} → ℕ → (W → ℕ → Bool) → List W → ℕ → Type 0
IsSame lanes bit words n = (k : ℕ) → k < lanes → bit_at (plane bit k words) n ≡ false

-- nothing differs at the places that aren't in the set
abbrev pub AreSameOff : {W : Type 0} → ℕ → (W → ℕ → Bool) → Places → List W → Type 0
AreSameOff lanes bit set words = (n : ℕ) → has set n ≡ false → IsSame lanes bit words n

-- words that differ at places of a set alone, which can have each of their places
pub record DifferOnlyIn {W : Type 0} (lanes : ℕ) (bit : W → ℕ → Bool) (set : Places) (words : List W) : Type 0 where
  pub bound : set.bound ≡ length words
  pub same : AreSameOff lanes bit set words

-- the places from here on that read a net that differs are marked
abbrev pub AreMarked : {W : Type 0} → ℕ → (W → ℕ → Bool) → Ordered → ℕ → List W → Places → Type 0
AreMarked lanes bit o from words marks = (place n : ℕ) → from ≤ place → IsReadAt o n place → has marks place ≡ false → IsSame lanes bit words n

-- what is in the set stays in it
abbrev pub Grows : Places → Places → Type 0
Grows old new = (p : ℕ) → has old p ≡ true → has new p ≡ true

-- the set has no place
abbrev pub IsEmptySet : Places → Type 0
IsEmptySet set = (p : ℕ) → has set p ≡ false

-- the value of a net in a lane: its golden value, in a row, and what it differs in
abbrev pub read_in : {W : Type 0} → (W → ℕ → Bool) → ℕ → List ℕ → List W → ℕ → Bool
read_in bit k row words n = either (value_in row n) (bit_at (plane bit k words) n)
