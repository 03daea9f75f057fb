use Rattle.std.proofs.Common.{◌∙◌, sym, arith}
use Rattle.result_merge.proofs.Differing.{both_other, differs_at, differs_nowhere}
use Rattle.result_merge.proofs.merge.first_difference.Goals as goal

pub returns-then-is_other : goal.returns-then-is_other
returns-then-is_other c =
    let first = sym c.get.ensures ∙ c.in-Some-Some.is-0 in
    let second = sym c.get-in-loop-batch.ensures ∙ c.in-Some-Some.is-1 in
    let other = both_other _ _ c.in-Some-Some.first c.in-Some-Some.second c.is_other.result first second c.is_other.ensures ∙ c.if-is_other.true in
    differs_at c.args.batches c.args.firsts.now c.args.seconds.now c.loop-batch.batch c.in-Some-Some.first c.in-Some-Some.second c.loop-batch-test.true first second other c.loop-batch.invariant

pub returns : goal.returns
returns c = differs_nowhere c.args.batches c.args.firsts.now c.args.seconds.now (λ k lt. c.loop-batch.invariant k (omega (arith, lt, c.loop-batch-test.false)))
