-- What the nets are shown to differ in after a cycle.
use Rattle.std.specs.Prelude.{◌≡◌, ℕ, ◌+◌, ◌/◌, ◌<◌, ◌&&◌, Bool, true, false, List, length, map, if◌then◌else◌}
use Rattle.std.specs.List.{range_with_len}
use Rattle.circuit.specs.Value.{bit_at}
use Rattle.fanout.specs.Readers.{Ordered}
use Rattle.lane_words.specs.Bits.{either}
use Rattle.lane_words.specs.Gates.{plane}
use Rattle.place_set.specs.Places.{Places, has, value_in}
use Rattle.differential_kernel.specs.declared.cone.Cone.{Cone}
use Rattle.differential_kernel.specs.declared.shown.ShownNets.{ShownNets}
use Rattle.differential_kernel.specs.Differences.{read_in}
use Rattle.differential_kernel.specs.Parts.{AreNetsOf}

-- by words, in a lane
abbrev pub shown_by : {W : Type 0} → (W → ℕ → Bool) → List W → ℕ → ℕ → Bool
shown_by bit words k n = bit_at (plane bit k words) n

-- by the values of the nets of a set, in a lane: these beside their golden values, in a row; no other net differs
abbrev pub told_in : {W : Type 0} → (W → ℕ → Bool) → ℕ → List ℕ → Places → List W → ℕ → Bool
told_in bit k row set values n = has set n && read_in bit k row values n

-- so the value of each net: its own in the set, and its golden value outside of it
abbrev pub valued_in : {W : Type 0} → (W → ℕ → Bool) → ℕ → List ℕ → Places → List W → ℕ → Bool
valued_in bit k row set values n = either (value_in row n) (told_in bit k row set values n)

-- by values after a cycle that was run by a cone, and else by words
abbrev pub shown_of : {W : Type 0} → (W → ℕ → Bool) → ShownNets W → ℕ → ℕ → Bool
shown_of bit nets k n = if nets.swept then told_in bit k nets.row.items nets.own.touched nets.values.items n else bit_at (plane bit k nets.own.words.items) n

-- of each lane a bit for each net
abbrev pub all_shown : {W : Type 0} → ℕ → (W → ℕ → Bool) → ℕ → ShownNets W → List (List Bool)
all_shown lanes bit count nets = map (λ k. map (shown_of bit nets k) (range_with_len 0 count)) (range_with_len 0 lanes)

-- each net has its word and its value, and room for its golden value
pub record AreShownNetsOf {W : Type 0} (lanes : ℕ) (bit : W → ℕ → Bool) (o : Ordered) (nets : ShownNets W) : Type 0 where
  pub own : AreNetsOf lanes bit o nets.own
  pub values : length nets.values.items ≡ length o.circuit.drivers
  pub row : length nets.row.items ≡ length o.circuit.drivers / 64 + 1

-- the nets outside of the cone that are read for it have their golden values
abbrev pub ReadGolden : {W : Type 0} → ℕ → (W → ℕ → Bool) → List ℕ → Cone → List W → Type 0
ReadGolden lanes bit row cone values =
    (k n : ℕ) → k < lanes → n < length values → has cone.read n ≡ true → has cone.nets n ≡ false → bit_at (plane bit k values) n ≡ value_in row n
