-- What simulates batches one after the other.
use Rattle.std.specs.Prelude.{◌≡◌, ℕ, List, Option, length, map}
use Rattle.circuit.specs.declared.parts.Fault.{Fault}
use Rattle.campaign_plan.specs.declared.Outcome.{Outcome}
use Rattle.classifier.specs.Batch.{outcome_for}
use Rattle.classifier.specs.Simulated.{Simulated}
use Rattle.classifier.specs.Simulator.{Simulator, simulator_of}
use Rattle.testbench.specs.Testbench.{Testbench}

-- these faults on this testbench, with the simulator's interval
abbrev pub what_is_simulated : Testbench → List Fault → Simulator → Simulated
what_is_simulated bench faults s = record { circuit = bench.circuit; faults = faults; runs = bench.runs; points = bench.points; ftti = s.ftti }

-- the simulator is that of the testbench, and these are the planes of these batches
pub record ArePlanesAtHand (bench : Testbench) (faults : List Fault) (s : Simulator) (batches : List (Option ℕ)) (planes : List Outcome) : Type 0 where
  pub made : s ≡ simulator_of bench s.ftti
  pub count : length batches ≡ 4
  pub planes_are : planes ≡ map (outcome_for bench.circuit bench.points s.ftti bench.runs faults) batches
