-- Simulations of one circuit each, beside that of the golden circuit.
use Rattle.std.specs.Prelude.{◌≡◌, ℕ, ◌<◌, Bool, List, [], ◌∷◌, length, All, Option, None, slice_index_or}
use Rattle.circuit.specs.declared.parts.Fault.{Fault}
use Rattle.circuit.specs.declared.parts.NetId.{NetId}
use Rattle.circuit.specs.Circuit.{Circuit}
use Rattle.circuit.specs.After.{IsAfter}
use Rattle.cycle_sim.specs.Sim.{IsSimulationFor, Simulation}
use Rattle.lane_words.specs.Loads.{somes}
use Rattle.row_audit.specs.Loaded.{Loaded}
use Rattle.row_audit.specs.declared.one_circuit.OneCircuit.{OneCircuit}

-- the simulation of a lane
abbrev pub sim_at : Simulation → List Simulation → ℕ → Simulation
sim_at golden sims k = slice_index_or sims k golden

-- the fault of a lane, as a list
abbrev pub fault_alone : List (Option Fault) → ℕ → List Fault
fault_alone faults k = somes (slice_index_or faults k None ∷ [])

-- the golden circuit's netlist and order, and the fault of each lane
abbrev pub in_circuits : OneCircuit → Loaded
in_circuits s = record { circuit = s.golden.circuit; order = s.golden.order; faults = λ word k. fault_alone s.faults k }

-- there are 64 of these simulations, for this netlist and this order of its tables
pub record AreSims (c : Circuit) (nets : List NetId) (sims : List Simulation) : Type 0 where
  pub count : length sims ≡ 64
  pub each : All (IsSimulationFor c nets) sims

-- so it is beside the golden circuit
abbrev pub AreOfOneNetlist : OneCircuit → Type 0
AreOfOneNetlist s = AreSims s.golden.circuit s.golden.order s.sims.items

-- since the start each circuit has run cycles with these vectors, the golden one without a fault and each other with its own
pub record HaveRun (s : OneCircuit) (vectors : List (List Bool)) : Type 0 where
  pub alike : AreOfOneNetlist s
  pub golden : IsAfter s.golden.circuit [] vectors s.golden.moment
  pub each : (k : ℕ) → k < 64 → IsAfter s.golden.circuit (fault_alone s.faults k) vectors (sim_at s.golden s.sims.items k).moment
