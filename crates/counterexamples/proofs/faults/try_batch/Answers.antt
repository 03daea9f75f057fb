use Rattle.std.proofs.Common.{◌+◌, ◌∙◌, arith}
use Rattle.lane_words.specs.Loads.{loaded_faults}
use Rattle.counterexamples.proofs.faults.try_batch.Goals as goal

pub found_lanes-found-requires-clause-golden : goal.found_lanes-found-requires-clause-golden
found_lanes-found-requires-clause-golden c = c.load.ensures.loads 0 (omega arith) ∙ c.loads_of.ensures.golden

pub returns-clause-marks : goal.returns-clause-marks
returns-clause-marks c = c.mark.ensures.marks c.args.netlist.now c.args.posed.now c.args.faults.now (loaded_faults c.load.new.self.loads)
    (record {
      golden = c.load.ensures.loads 0 (omega arith) ∙ c.loads_of.ensures.golden;
      each = λ k lt. c.load.ensures.loads (k + 1) (let few = c.requires.few in omega (arith, few, lt)) ∙ c.loads_of.ensures.each k lt;
    }) c.found_lanes-found.ensures.found
