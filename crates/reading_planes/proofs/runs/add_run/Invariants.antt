use Rattle.std.proofs.Common.{◌≡◌, ◌+◌, ◌*◌, ◌<◌, ◌≤◌, ◌++◌, ◌∷◌, [], ℕ, List, length}
use Rattle.circuit.specs.declared.parts.Fault.{Fault}
use Rattle.circuit.specs.Circuit.{Circuit}
use Rattle.workload.specs.declared.run.Run.{Run}
use Rattle.classifier.specs.Planes.{HasPlanes}
use Rattle.first_cycles.specs.Shown.{shown_in}
use Rattle.fault_runs.specs.Records.{record_of}
use Rattle.fault_runs.specs.Whole.{HasShownRun}
use Rattle.reading_planes.specs.Folded.{AreCyclesFor, ArePlanesFor, planes_at, reading_at}
use Rattle.reading_planes.specs.Readings.{ftti_by, points_by}
use Rattle.reading_planes.proofs.runs.add_run.Given as goal

-- the run is added in the words so far, and the others are as they were
abbrev pub invariant-loop-word : goal.invariant-loop-word
invariant-loop-word l = record {
  made : AreCyclesFor l.points l.cycles;
  fit : ArePlanesFor l.readings l.planes;
  done : (c : Circuit) (runs : List Run) (run : Run) (faults : ℕ → List Fault) (word r : ℕ) → run.kind ≡ l.kind → word < l.word
      → ((k : ℕ) → k < 64 → HasShownRun l.points (shown_in c (faults k) run) (record_of l.records (word * 64 + k))) → r < length l.readings
      → HasPlanes c (points_by l.points (reading_at l.readings r)) (ftti_by l.ftti (reading_at l.readings r)) runs faults (planes_at l.initial.planes word r)
      → HasPlanes c (points_by l.points (reading_at l.readings r)) (ftti_by l.ftti (reading_at l.readings r)) (runs ++ run ∷ []) faults (planes_at l.planes word r);
  left : (word r : ℕ) → l.word ≤ word → planes_at l.planes word r ≡ planes_at l.initial.planes word r;
}
