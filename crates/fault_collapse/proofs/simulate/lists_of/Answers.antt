use Rattle.std.proofs.Common.{◌+◌, ◌∙◌, arith, length-set}
use Rattle.lane_words.proofs.Loading.{one_word_more}
use Rattle.fault_collapse.specs.Chosen.{faults_in}
use Rattle.fault_collapse.proofs.simulate.lists_of.Goals as goal

pub loop-word-preserved : goal.loop-word-preserved
loop-word-preserved c =
    let word = c.loop-word.word in
    let inv = c.loop-word.invariant in
    record {
      count = length-set c.loop-word.lists word c.loads_of.result ∙ inv.count;
      held = one_word_more c.loop-word.lists word c.loads_of.result (λ w k. faults_in c.args.faults.now c.args.numbers.now (c.args.first + w) k)
          (omega (arith, inv.count, c.loop-word-test.true)) inv.held c.loads_of.ensures;
    }
