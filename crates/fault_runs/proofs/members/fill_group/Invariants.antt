use Rattle.std.proofs.Common.{◌≡◌, ◌<◌, ◌≤◌, ◌+◌, ◌-◌, ℕ, true, length}
use Rattle.place_set.specs.Places.{has}
use Rattle.fault_runs.specs.First.{fault_in}
use Rattle.fault_runs.specs.Resting.{IsTaken}
use Rattle.fault_runs.proofs.members.fill_group.Given as goal

-- the members so far are the active faults from the first number to before the next
abbrev pub invariant-members : goal.invariant-members
invariant-members l = record {
  count : l.count ≤ length l.group;
  next : l.from ≤ l.next;
  active : (k : ℕ) → k < l.count → has l.active (fault_in l.group k) ≡ true;
  low : (k : ℕ) → k < l.count → l.from ≤ fault_in l.group k;
  high : (k : ℕ) → k < l.count → fault_in l.group k < l.next;
  all : (i : ℕ) → l.from ≤ i → i < l.next → has l.active i ≡ true → IsTaken l.stretch l.group l.count i;
  covers : l.from + l.count ≤ l.next;
  inside : l.from ≤ l.active.bound → l.next ≤ l.active.bound;
}

-- the numbers that are left
abbrev pub decreases-members : goal.decreases-members
decreases-members l = l.active.bound - l.next
