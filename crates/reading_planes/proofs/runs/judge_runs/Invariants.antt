use Rattle.std.proofs.Common.{◌≡◌, ◌+◌, ◌*◌, ◌<◌, ◌≤◌, ℕ, length, take}
use Rattle.std.specs.Int.{div_ceil}
use Rattle.workload.specs.Runs.{all_cycles}
use Rattle.testbench.specs.Load.{in_lane}
use Rattle.classifier.specs.Planes.{HasPlanes}
use Rattle.fault_runs.specs.Draw.{IsDrawFor}
use Rattle.reading_planes.specs.Folded.{AreCyclesFor, ArePlanesFor, planes_at, reading_at}
use Rattle.reading_planes.specs.Readings.{ftti_by, points_by}
use Rattle.reading_planes.proofs.runs.judge_runs.Given as goal

-- the runs so far are judged
abbrev pub invariant-loop-run : goal.invariant-loop-run
invariant-loop-run g l = record {
  made : IsDrawFor l.bench l.draw;
  faults : l.draw.faults ≡ l.initial.draw.faults;
  cycles : AreCyclesFor l.bench.points l.cycles;
  fit : ArePlanesFor l.readings l.planes;
  planes : (word r : ℕ) → word < length l.initial.planes → r < length l.readings
      → HasPlanes l.bench.circuit (points_by l.bench.points (reading_at l.readings r)) (ftti_by l.ftti (reading_at l.readings r)) (take l.run l.bench.runs)
      (in_lane l.initial.draw.faults.items word) (planes_at l.planes word r);
  cost : l.steps ≤ l.initial.steps + div_ceil (length l.initial.draw.faults.items) 256 * (all_cycles (take l.run l.bench.runs) * length l.bench.circuit.tables);
}
