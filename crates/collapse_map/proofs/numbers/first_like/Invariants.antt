use Rattle.std.proofs.Common.{◌≡◌, ℕ, ◌<◌, ◌≤◌, true, false}
use Rattle.fault_list.specs.Faults.{fault_at}
use Rattle.collapse_map.specs.Collapsed.{same_fault}
use Rattle.collapse_map.proofs.numbers.first_like.Given as goal

abbrev pub invariant-loop-j : goal.invariant-loop-j
invariant-loop-j l = record {
  within : l.first ≤ l.i;
  looked : l.j ≤ l.first;
  same : same_fault (fault_at l.faults l.i) (fault_at l.faults l.first) ≡ true;
  before : (q : ℕ) → l.j ≤ q → q < l.first → same_fault (fault_at l.faults l.i) (fault_at l.faults q) ≡ false;
}
