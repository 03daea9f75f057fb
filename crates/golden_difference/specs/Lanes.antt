-- Simulations of one circuit in lanes, beside the golden run, as contracts see them. A lane whose outcome is decided can be
-- dropped: until the next start its faults are not in force. Source: fault dropping in fault simulation.
use Rattle.std.specs.Prelude.{◌≡◌, ℕ, Bool, List, [], Option}
use Rattle.circuit.specs.declared.parts.Fault.{Fault}
use Rattle.circuit.specs.declared.parts.NetId.{NetId}
use Rattle.circuit.specs.Circuit.{Circuit}
use Rattle.lane_words.specs.Loads.{loaded_faults}

-- the circuit and the order of its tables that the lanes were made for, the faults that each lane was loaded with and those that
-- are in force in it, the number of cycles since the start, what the latches differ in, and of each lane a bit for each net: whether
-- it differs in the last cycle
pub record Lanes (W : Type 0) : Type 0 where
  pub circuit : Circuit
  pub order : List NetId
  pub loads : List (List (Option Fault))
  pub in_force : List (List (Option Fault))
  pub cycle : ℕ
  pub raw : List W
  pub shown : List (List Bool)

-- the lanes were made for this circuit and this order of its tables
pub record IsMadeFor {W : Type 0} (c : Circuit) (nets : List NetId) (lanes : Lanes W) : Type 0 where
  pub circuit : lanes.circuit ≡ c
  pub order : lanes.order ≡ nets

-- nothing was loaded in between
pub record KeepsLoads {W : Type 0} (old new : Lanes W) : Type 0 where
  pub circuit : new.circuit ≡ old.circuit
  pub order : new.order ≡ old.order
  pub loads : new.loads ≡ old.loads

-- no lane was loaded with a fault, and none is in force
pub record AreBare {W : Type 0} (lanes : Lanes W) : Type 0 where
  pub loads : (k : ℕ) → loaded_faults lanes.loads k ≡ []
  pub in_force : (k : ℕ) → loaded_faults lanes.in_force k ≡ []
