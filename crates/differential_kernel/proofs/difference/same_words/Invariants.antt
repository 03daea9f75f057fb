use Rattle.std.proofs.Common.{◌≡◌, ℕ, length}
use Rattle.differential_kernel.specs.Differences.{IsSame}
use Rattle.differential_kernel.proofs.difference.same_words.Given as goal

abbrev pub invariant-loop-n : goal.invariant-loop-n
invariant-loop-n g l = record {
  count : length l.words.items ≡ l.n;
  same : (n : ℕ) → IsSame g.W.Word.lanes g.W.Word.lane_bit l.words.items n;
}
