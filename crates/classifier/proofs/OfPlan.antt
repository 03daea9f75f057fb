-- What is simulated on a testbench of a plan is what the plan asks for.
use Rattle.std.proofs.Common.{◌≡◌, ℕ, List, ap, ap₂, ◌∙◌}
use Rattle.circuit.specs.declared.parts.Fault.{Fault}
use Rattle.circuit.specs.Circuit.{Circuit}
use Rattle.workload.specs.declared.run.Run.{Run}
use Rattle.alarm_points.specs.declared.Points.{Points}
use Rattle.campaign_plan.specs.Analysis.{Analysis, all_faults}
use Rattle.classifier.specs.Simulator.{Simulator, simulator_of}
use Rattle.testbench.specs.Testbench.{Testbench, IsTestbenchFor, testbench_of}

-- whatever is a function of what is simulated, and of the faults
pub of_plan : {A : Type 0} (what : Circuit → Points → ℕ → List Run → List Fault → A) (p : Analysis) (bench : Testbench) (s : Simulator) (faults : List Fault)
    → IsTestbenchFor p bench → s ≡ simulator_of bench p.settings.ftti → faults ≡ all_faults p
    → what bench.circuit bench.points s.ftti bench.runs faults ≡ what p.circuit p.points p.settings.ftti p.runs (all_faults p)
of_plan what p bench s faults is made all =
    ap₂ (λ (net : Circuit) (points : Points). what net points s.ftti bench.runs faults) is.circuit is.points
    ∙ ap₂ (λ (ftti : ℕ) (runs : List Run). what p.circuit p.points ftti runs faults) (ap (λ (t : Simulator). t.ftti) made) is.runs
    ∙ ap (what p.circuit p.points p.settings.ftti p.runs) all

-- a testbench that was made of a plan is one for it
pub is_for : (p : Analysis) (bench : Testbench) → bench ≡ testbench_of p bench.order → IsTestbenchFor p bench
is_for p bench e = record {
  circuit = ap (λ (b : Testbench). b.circuit) e;
  runs = ap (λ (b : Testbench). b.runs) e;
  points = ap (λ (b : Testbench). b.points) e;
}
