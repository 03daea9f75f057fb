use Rattle.testbench.specs.Load.{lane_faults, load_of}
use Rattle.classifier.proofs.PlaneBits.{none_marked}
use Rattle.classifier.proofs.outcome.loaded_outcome.Goals as goal

pub word_outcome-requires-clause-reach : goal.word_outcome-requires-clause-reach
word_outcome-requires-clause-reach g c = none_marked c.args.bench.now.circuit c.args.bench.now.points (lane_faults (load_of c.args.lanes.now) 0)
