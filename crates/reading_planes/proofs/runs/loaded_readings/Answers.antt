use Rattle.std.proofs.Common.{◌<◌, length, sym, subst}
use Rattle.testbench.specs.Load.{in_lane}
use Rattle.classifier.proofs.PlaneBits.{planes_are}
use Rattle.reading_planes.specs.Folded.{planes_at, reading_at}
use Rattle.reading_planes.specs.Readings.{ftti_by, points_by}
use Rattle.reading_planes.proofs.runs.loaded_readings.Goals as goal

pub judge_runs-requires-clause-nothing : goal.judge_runs-requires-clause-nothing
judge_runs-requires-clause-nothing g c = λ word r lt small.
    let inside : word < length c.args.planes.now = subst (λ n. word < n) c.start_planes.auto.planes lt in
    c.start_planes.ensures.nothing word r inside (subst (λ n. r < n) (sym (c.requires.planes word inside)) small)

pub returns-clause-planes : goal.returns-clause-planes
returns-clause-planes g c = λ word r lt small.
    let bench = c.args.bench.now in
    let inside : word < length c.start_planes.new.planes = subst (λ n. word < n) (sym c.start_planes.auto.planes) lt in
    planes_are bench.circuit (points_by bench.points (reading_at c.args.readings.now r)) (ftti_by c.args.ftti (reading_at c.args.readings.now r)) bench.runs
    (in_lane c.args.draw.now.faults.items word) (planes_at c.judge_runs.new.planes word r) (c.judge_runs.ensures.planes word r inside small)
