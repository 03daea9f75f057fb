-- What simulates faults on a testbench: whatever it has simulated before is no matter.
use Rattle.std.specs.Prelude.{ℕ, List, [], Option, slice_index_or}
use Rattle.circuit.specs.declared.parts.Fault.{Fault}
use Rattle.circuit.specs.declared.parts.NetId.{NetId}
use Rattle.circuit.specs.Circuit.{Circuit}
use Rattle.alarm_points.specs.declared.Points.{Points}
use Rattle.lane_words.specs.Loads.{loaded_faults}
use Rattle.testbench.specs.Testbench.{Testbench}

-- the circuit with an order of its tables, the points, and the interval in cycles of goals without one of their own, that it was made for
pub record Simulator : Type 0 where
  pub circuit : Circuit
  pub order : List NetId
  pub points : Points
  pub ftti : ℕ

-- a simulator of a testbench, with this interval
abbrev pub simulator_of : Testbench → ℕ → Simulator
simulator_of bench ftti = record { circuit = bench.circuit; order = bench.order; points = bench.points; ftti = ftti }

-- the faults that a lane of a word is given, the first before the second
abbrev pub listed : List (List (List (Option Fault))) → ℕ → ℕ → List Fault
listed lists word lane = loaded_faults (slice_index_or lists word []) lane
