-- Lanes that are picked out of others, one behind the other.
use Rattle.std.specs.Prelude.{◌≡◌, ℕ, ◌<◌, ◌≤◌, ◌==◌, ◌&&◌, Bool, false, List, length, nat_lt, Option, None, Some, slice_index_or}
use Rattle.fm_base.specs.Planes.{bit}

-- how many lanes are picked; the lane of each place among them; and of each lane its place, where it is one of them
pub record Picks : Type 0 where
  pub count : ℕ
  pub lanes : List ℕ
  pub places : List (Option ℕ)

-- the picked lane of a place
abbrev pub lane_at : Picks → ℕ → ℕ
lane_at picks place = slice_index_or picks.lanes place 0

-- the place of a lane
abbrev pub place_in : Picks → ℕ → Option ℕ
place_in picks lane = slice_index_or picks.places lane None

-- at most 64 lanes of 256 are picked, and a lane with a place has been picked there
pub record ArePicks (picks : Picks) : Type 0 where
  pub few : picks.count ≤ 64
  pub lanes : length picks.lanes ≡ 64
  pub places : length picks.places ≡ 256
  pub picked_there : (lane place : ℕ) → place_in picks lane ≡ Some place → (place < picks.count) × (lane_at picks place ≡ lane)

-- all are below this number
abbrev pub AreBelow : ℕ → Picks → Type 0
AreBelow lanes picks = (place : ℕ) → place < picks.count → lane_at picks place < lanes

-- the bit of the picked lane of a place; behind the last it is false
abbrev pub picked : Picks → (ℕ → Bool) → ℕ → Bool
picked picks bits place = nat_lt place picks.count && bits (lane_at picks place)

-- the bit at a place; false where there is no place
abbrev pub bit_at_place : ℕ → Option ℕ → Bool
bit_at_place bits None = false
bit_at_place bits (Some place) = bit bits place

-- it is this place
abbrev pub is_place : ℕ → Option ℕ → Bool
is_place place None = false
is_place place (Some other) = place == other
