-- A simulation of one circuit as contracts see it.
use Rattle.std.specs.Prelude.{◌≡◌, Bool, List, length}
use Rattle.circuit.specs.declared.parts.NetId.{NetId}
use Rattle.circuit.specs.Circuit.{Circuit}
use Rattle.circuit.specs.Order.{IsOrder}
use Rattle.circuit.specs.Trace.{first_state}
use Rattle.circuit.specs.After.{Moment}

-- the circuit and the order of its tables that the simulation was made for, and where it stands
pub record Simulation : Type 0 where
  pub circuit : Circuit
  pub order : List NetId
  pub moment : Moment

-- the simulation was made for this circuit and this order of its tables
pub record IsSimulationFor (c : Circuit) (nets : List NetId) (sim : Simulation) : Type 0 where
  pub circuit : sim.circuit ≡ c
  pub order : sim.order ≡ nets

-- an order of the circuit's tables, the initial values of its latches, and lists of its sizes
pub record AreSizedFor (c : Circuit) (order : List NetId) (starts raw values : List Bool) : Type 0 where
  pub ordered : IsOrder c order
  pub initial : starts ≡ first_state c
  pub latches : length raw ≡ length c.latches
  pub nets : length values ≡ length c.drivers
