-- What lanes were made for, and loaded with.
use Rattle.std.specs.Prelude.{ℕ, ◌+◌, ◌*◌, List, Option}
use Rattle.circuit.specs.declared.parts.Fault.{Fault}
use Rattle.circuit.specs.declared.parts.NetId.{NetId}
use Rattle.circuit.specs.Circuit.{Circuit}
use Rattle.golden_difference.specs.Lanes.{Lanes}
use Rattle.lane_words.specs.Loads.{loaded_faults}

-- the circuit, the order of its tables, and the faults of each lane, one word of 64 lanes behind the other
pub record Load : Type 0 where
  pub circuit : Circuit
  pub order : List NetId
  pub faults : List (List (Option Fault))

-- those of lanes
abbrev pub load_of : {W : Type 0} → Lanes W → Load
load_of lanes = record { circuit = lanes.circuit; order = lanes.order; faults = lanes.loads }

-- the faults in a lane of a word
abbrev pub in_lane : List (List (Option Fault)) → ℕ → ℕ → List Fault
in_lane faults word lane = loaded_faults faults (word * 64 + lane)

-- those that it was loaded with
abbrev pub lane_faults : Load → ℕ → ℕ → List Fault
lane_faults load word lane = in_lane load.faults word lane
