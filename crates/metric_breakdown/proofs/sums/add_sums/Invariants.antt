use Rattle.std.proofs.Common.{◌≡◌, ◌<◌, ◌≤◌, ℕ}
use Rattle.metric_sums.specs.Totals.{plus}
use Rattle.metric_breakdown.specs.Text.{sums_at}
use Rattle.metric_breakdown.proofs.sums.add_sums.Given as goal

-- the readings so far have what was added, and the others are as they were
abbrev pub invariant-loop-r : goal.invariant-loop-r
invariant-loop-r l = record {
  done : (m : ℕ) → m < l.r → sums_at l.sums m ≡ plus (sums_at l.initial.sums m) (sums_at l.added m);
  left : (m : ℕ) → l.r ≤ m → sums_at l.sums m ≡ sums_at l.initial.sums m;
}
