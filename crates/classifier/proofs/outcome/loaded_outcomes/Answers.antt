use Rattle.alarm_points.specs.FourWatches.{windows_at}
use Rattle.testbench.specs.Load.{lane_faults, load_of}
use Rattle.classifier.specs.Planes.{outcome_at}
use Rattle.classifier.proofs.PlaneBits.{planes_are}
use Rattle.classifier.proofs.outcome.loaded_outcomes.Goals as goal

pub returns-clause-outcomes : goal.returns-clause-outcomes
returns-clause-outcomes g c = λ word lt.
    planes_are c.args.bench.now.circuit c.args.bench.now.points (windows_at c.args.windows.now word).ftti c.args.bench.now.runs
    (lane_faults (load_of c.args.lanes.now) word) (outcome_at c.judge_runs.new.outcomes word) (c.judge_runs.ensures.planes word lt)
