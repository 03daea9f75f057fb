-- A simulation without faults, between two cycles.
use Rattle.std.specs.Prelude.{◌≡◌, ℕ, ◌+◌, Bool, List, [], length}
use Rattle.circuit.specs.Circuit.{Circuit}
use Rattle.circuit.specs.Trace.{raw_state}
use Rattle.fanout.specs.Readers.{Ordered}
use Rattle.golden_difference.specs.Beside.{IsGoldenRow}
use Rattle.golden_run.specs.declared.simulation.Simulation.{Simulation}
use Rattle.golden_run.specs.Events.{AreValuesOf}

-- its values and its latches are those of a netlist
pub record IsSimulationOf (o : Ordered) (simulation : Simulation) : Type 0 where
  pub values : AreValuesOf o simulation.values
  pub latches : length simulation.raw.items ≡ length o.circuit.latches

-- cycle t was the last: each net has its golden value, and the latches hold what they have in the next one
pub record HasRun (c : Circuit) (vectors : List (List Bool)) (t : ℕ) (simulation : Simulation) : Type 0 where
  pub row : IsGoldenRow c vectors t simulation.values.row.items
  pub raw : simulation.raw.items ≡ raw_state c [] vectors (t + 1)
