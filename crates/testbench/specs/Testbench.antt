-- What faults are simulated on.
use Rattle.std.specs.Prelude.{◌≡◌, List}
use Rattle.circuit.specs.declared.parts.NetId.{NetId}
use Rattle.circuit.specs.Circuit.{Circuit}
use Rattle.workload.specs.declared.run.Run.{Run}
use Rattle.alarm_points.specs.declared.Points.{Points}
use Rattle.campaign_plan.specs.Analysis.{Analysis}

-- a circuit with an order of its tables, the runs of a workload, and the points that tell danger and notice
pub record Testbench : Type 0 where
  pub circuit : Circuit
  pub order : List NetId
  pub runs : List Run
  pub points : Points

-- the testbench of a plan, by an order of its tables
abbrev pub testbench_of : Analysis → List NetId → Testbench
testbench_of p order = record { circuit = p.circuit; order = order; runs = p.runs; points = p.points }

-- a testbench of a plan, by some order of its tables
pub record IsTestbenchFor (p : Analysis) (bench : Testbench) : Type 0 where
  pub circuit : bench.circuit ≡ p.circuit
  pub runs : bench.runs ≡ p.runs
  pub points : bench.points ≡ p.points
