-- A walk over the marked places of one cycle.
use Rattle.std.specs.Prelude.{◌≡◌, ℕ, ◌<◌, ◌≤◌, Bool, false, List, [], length, slice_index_or}
use Rattle.circuit.specs.declared.parts.NetId.{NetId}
use Rattle.circuit.specs.Circuit.{Circuit}
use Rattle.circuit.specs.Order.{net_at}
use Rattle.circuit.specs.Value.{Cycle, bit_at, driven, driver_at, net_value, table_gives}
use Rattle.lane_words.specs.Bits.{either}
use Rattle.lane_words.specs.Gates.{plane}
use Rattle.place_set.specs.Places.{Places, has, value_in}
use Rattle.lane_words.specs.declared.force.Force.{Force}
use Rattle.lane_words.specs.Forces.{force_value}

-- a cycle with faults and the golden one, of the same circuit and inputs, and the golden values in a row
pub record IsPair (c : Circuit) (row : List ℕ) (x golden : Cycle) : Type 0 where
  pub circuit : x.circuit ≡ c
  pub golden_circuit : golden.circuit ≡ c
  pub none : golden.faults ≡ []
  pub inputs : golden.inputs ≡ x.inputs
  pub values : (n : ℕ) → n < length c.drivers → value_in row n ≡ net_value golden n

-- the golden value of a net is what its table gives over golden values
abbrev pub IsGivenAt : Circuit → List ℕ → ℕ → Type 0
IsGivenAt c row n = (state inputs : List Bool) → driven state inputs (table_gives c (value_in row)) (driver_at c n) ≡ value_in row n

-- where a place from here on isn't marked, its net differs in what the force on it makes of its golden value
abbrev pub IsAhead : {W : Type 0} → ℕ → (W → ℕ → Bool) → List NetId → List ℕ → List (Force W) → ℕ → List W → Places → Type 0
IsAhead {W} lanes bit order row forces from words marks =
    (k q : ℕ) (d : Force W) → k < lanes → from ≤ q → q < length order → has marks q ≡ false
    → bit_at (plane bit k words) (net_at order q).0
    ≡ either (force_value bit k (slice_index_or forces (net_at order q).0 d) (value_in row (net_at order q).0)) (value_in row (net_at order q).0)
