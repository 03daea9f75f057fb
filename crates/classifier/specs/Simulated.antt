-- What batches are simulated with.
use Rattle.std.specs.Prelude.{ℕ, List}
use Rattle.circuit.specs.declared.parts.Fault.{Fault}
use Rattle.circuit.specs.Circuit.{Circuit}
use Rattle.workload.specs.declared.run.Run.{Run}
use Rattle.alarm_points.specs.declared.Points.{Points}
use Rattle.campaign_plan.specs.declared.Outcome.{Outcome}
use Rattle.campaign_plan.specs.Analysis.{Analysis, all_faults}
use Rattle.campaign_plan.specs.Batches.{outcome_of}

-- a netlist with its faults, the runs and the points, and the interval in cycles of goals without one of their own
pub record Simulated : Type 0 where
  pub circuit : Circuit
  pub faults : List Fault
  pub runs : List Run
  pub points : Points
  pub ftti : ℕ

-- those of a plan
abbrev pub simulated_of : Analysis → Simulated
simulated_of p = record { circuit = p.circuit; faults = all_faults p; runs = p.runs; points = p.points; ftti = p.settings.ftti }

-- the planes of a batch of its faults
abbrev pub planes_simulated : Simulated → ℕ → Outcome
planes_simulated s batch = outcome_of s.circuit s.points s.ftti s.runs s.faults batch
