use Rattle.std.proofs.Common.{◌≡◌, ◌<◌, ℕ, false}
use Rattle.result_merge.proofs.Differing.{other_at}
use Rattle.result_merge.proofs.merge.first_difference.Given as goal

abbrev pub invariant-loop-batch : goal.invariant-loop-batch
invariant-loop-batch l = (k : ℕ) → k < l.batch → other_at l.firsts l.seconds k ≡ false
