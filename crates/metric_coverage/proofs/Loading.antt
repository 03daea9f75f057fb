-- What was found of the faults that lanes were loaded with, in the plan's own terms.
use Rattle.std.proofs.Common.{◌≡◌, ◌+◌, ◌*◌, ℕ, List, ap, sym, ◌∙◌, subst, arith}
use Rattle.std.specs.Prelude.{Some}
use Rattle.std.proofs.Math.Nat.{add-mul}
use Rattle.circuit.specs.declared.parts.Fault.{Fault}
use Rattle.circuit.specs.Circuit.{Circuit}
use Rattle.workload.specs.declared.run.Run.{Run}
use Rattle.alarm_points.specs.declared.Points.{Points}
use Rattle.campaign_plan.specs.declared.Outcome.{Outcome}
use Rattle.campaign_plan.specs.Analysis.{Analysis, all_faults}
use Rattle.campaign_plan.specs.Batches.{outcome_of, true_planes}
use Rattle.classifier.specs.Batch.{alone_in}
use Rattle.classifier.specs.Planes.{HasPlanes}
use Rattle.testbench.specs.Testbench.{IsTestbenchFor, Testbench}
use Rattle.reading_planes.specs.Readings.{ftti_by, plan_by, points_by}
use Rattle.reading_planes.specs.declared.reading.Reading.{Reading}

-- on a testbench of the plan
pub found_of : (p : Analysis) (reading : Reading) (bench : Testbench) → IsTestbenchFor p bench → (ftti : ℕ) → ftti ≡ p.settings.ftti
    → (faults : List Fault) → faults ≡ all_faults p → (first batch : ℕ) → first ≡ batch → (found : Outcome)
    → HasPlanes bench.circuit (points_by bench.points reading) (ftti_by ftti reading) bench.runs (alone_in faults (Some first)) found
    → HasPlanes p.circuit (points_by p.points reading) (ftti_by p.settings.ftti reading) p.runs (alone_in (all_faults p) (Some batch)) found
found_of p reading bench is ftti interval faults all first batch same found has =
    subst (λ (b : ℕ). HasPlanes p.circuit (points_by p.points reading) (ftti_by p.settings.ftti reading) p.runs (alone_in (all_faults p) (Some b)) found) same
    (subst (λ (fs : List Fault). HasPlanes p.circuit (points_by p.points reading) (ftti_by p.settings.ftti reading) p.runs (alone_in fs (Some first)) found) all
    (subst (λ (n : ℕ). HasPlanes p.circuit (points_by p.points reading) (ftti_by n reading) p.runs (alone_in faults (Some first)) found) interval
    (subst (λ (runs : List Run). HasPlanes p.circuit (points_by p.points reading) (ftti_by ftti reading) runs (alone_in faults (Some first)) found) is.runs
    (subst (λ (ps : Points). HasPlanes p.circuit (points_by ps reading) (ftti_by ftti reading) bench.runs (alone_in faults (Some first)) found) is.points
    (subst (λ (c : Circuit). HasPlanes c (points_by bench.points reading) (ftti_by ftti reading) bench.runs (alone_in faults (Some first)) found) is.circuit has)))))

-- a batch some words behind the first
pub some_words : (turn workers number word first : ℕ) → first ≡ turn * workers + number → first + word * workers ≡ (turn + word) * workers + number
some_words turn workers number word first e =
    let rows : (turn + word) * workers ≡ turn * workers + word * workers = add-mul turn word workers in
    omega (arith, e, rows)

-- the planes of a batch by a reading are those that it truly has
pub true_of : (p : Analysis) (reading : Reading) (batch : ℕ) (faults : List Fault) → faults ≡ all_faults p → (found planes : Outcome)
    → ((c : Circuit) (points : Points) (ftti : ℕ) (runs : List Run) → HasPlanes c points ftti runs (alone_in faults (Some batch)) found → planes ≡ outcome_of c points ftti runs faults batch)
    → HasPlanes p.circuit (points_by p.points reading) (ftti_by p.settings.ftti reading) p.runs (alone_in (all_faults p) (Some batch)) found
    → planes ≡ true_planes (plan_by p reading) batch
true_of p reading batch faults all found planes of has =
    of p.circuit (points_by p.points reading) (ftti_by p.settings.ftti reading) p.runs
    (subst (λ (fs : List Fault). HasPlanes p.circuit (points_by p.points reading) (ftti_by p.settings.ftti reading) p.runs (alone_in fs (Some batch)) found) (sym all) has)
    ∙ ap (λ (fs : List Fault). outcome_of p.circuit (points_by p.points reading) (ftti_by p.settings.ftti reading) p.runs fs batch) all
