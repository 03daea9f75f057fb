use Rattle.std.proofs.Common.{arith, length-set, ◌∙◌}
use Rattle.claim_search.proofs.Forcing.{all_joined, join_more, rest_more}
use Rattle.claim_search.proofs.answer.join.Goals as goal

pub loop-i-preserved : goal.loop-i-preserved
loop-i-preserved c =
    let first = c.args.starts.now in
    let others = c.args.others.now in
    let now = c.loop-i.starts in
    let i = c.loop-i.i in
    let few = c.requires in
    record {
      size = length-set now i c.or.result ∙ c.loop-i.invariant.size;
      done = join_more first others now i c.loop-i.invariant.done c.loop-i.invariant.rest c.or.result (omega (arith, few, c.loop-i-test.true, c.loop-i.invariant.size)) c.or.ensures;
      rest = rest_more first others now i c.loop-i.invariant.done c.loop-i.invariant.rest c.or.result;
    }

pub returns : goal.returns
returns c = all_joined c.args.starts.now c.args.others.now c.loop-i.starts c.loop-i.i c.loop-i.invariant.done c.loop-i.invariant.rest (omega (arith, c.loop-i-test.false))
