-- What simulates batches of faults, for the readings of a plan.
use Rattle.std.specs.Prelude.{◌≡◌, ℕ, ◌+◌, ◌*◌, ◌<◌, List, length, Some}
use Rattle.circuit.specs.declared.parts.Fault.{Fault}
use Rattle.classifier.specs.Batch.{alone_in}
use Rattle.classifier.specs.Planes.{HasPlanes}
use Rattle.testbench.specs.Testbench.{Testbench}
use Rattle.fault_runs.specs.Draw.{IsDrawFor}
use Rattle.fault_runs.specs.Whole.{ArePathsTo}
use Rattle.reading_planes.specs.Folded.{AreCyclesFor, ArePlanesFor, planes_at, reading_at}
use Rattle.reading_planes.specs.Readings.{ftti_by, points_by}
use Rattle.reading_planes.specs.declared.reading.Reading.{Reading}
use Rattle.reading_planes.specs.declared.simulator.ReadingSimulator.{ReadingSimulator}

-- a simulator that was made for a testbench and for so many readings: a draw of four batches of 64 faults, with planes for each
pub record IsSimulatorFor (bench : Testbench) (readings : List Reading) (s : ReadingSimulator) : Type 0 where
  pub draw : IsDrawFor bench s.draw
  pub faults : length s.draw.faults.items ≡ 256
  pub paths : ArePathsTo bench.circuit bench.points s.paths
  pub cycles : AreCyclesFor bench.points s.cycles
  pub word_planes : length s.planes.items ≡ 4
  pub planes : ArePlanesFor readings s.planes.items

-- it has found the planes of four batches by each reading, the first and each `apart` further, in each word those of one: each fault alone in
-- its lane
abbrev pub HasFound : Testbench → ℕ → List Reading → List Fault → (first apart : ℕ) → ReadingSimulator → Type 0
HasFound bench ftti readings faults first apart s =
    (word r : ℕ) → word < 4 → r < length readings
    → HasPlanes bench.circuit (points_by bench.points (reading_at readings r)) (ftti_by ftti (reading_at readings r)) bench.runs
    (alone_in faults (Some (first + word * apart))) (planes_at s.planes.items word r)
