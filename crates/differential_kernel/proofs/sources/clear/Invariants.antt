use Rattle.std.proofs.Common.{◌<◌, ◌-◌, ℕ}
use Rattle.differential_kernel.specs.Differences.{AreSameOff, IsSame}
use Rattle.differential_kernel.proofs.sources.clear.Given as goal

abbrev pub decreases-places : goal.decreases-places
decreases-places g l = l.set.bound - l.from

-- nothing differs at the places so far, nor off the set
abbrev pub invariant-places : goal.invariant-places
invariant-places g l = record {
  done : (n : ℕ) → n < l.from → IsSame g.W.Word.lanes g.W.Word.lane_bit l.words n;
  off : AreSameOff g.W.Word.lanes g.W.Word.lane_bit l.set l.words;
}
