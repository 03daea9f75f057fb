use Rattle.std.proofs.Common.{◌+◌, ◌*◌, ◌<◌, ap, ◌∙◌, arith}
use Rattle.differential_kernel.specs.Picked.{place_in}
use Rattle.testbench.specs.Load.{in_lane}
use Rattle.lane_words.specs.Loads.{loaded_faults}
use Rattle.classifier.proofs.Narrowing.{faults_from}
use Rattle.classifier.proofs.narrow.Narrow.take.Goals as goal

pub returns-clause-goes_on : goal.returns-clause-goes_on
returns-clause-goes_on g c = λ is.
    let others = c.args.others.now in
    let picks = c.in-Some.picks in
    record {
      cycle = c.take.ensures.cycle;
      faults = λ word k lt lane.
          let lane_of = word * 64 + k in
          let within : lane_of < g.W.Word.lanes = omega (arith, lt, lane, g.met.W.Word.whole, c.requires.four) in
          faults_from c.take.new.self.in_force (in_lane others.in_force word k) (place_in picks lane_of)
          (λ none. c.in-Some.ensures.rest lane_of within none)
          (λ own there.
          let from = c.in-Some.ensures.sound.picked_there lane_of own there in
          c.take.ensures.taken own from.0 ∙ ap (loaded_faults others.in_force) from.1);
      after = c.take.ensures.beside;
    }
