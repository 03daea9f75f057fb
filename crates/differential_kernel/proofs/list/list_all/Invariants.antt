use Rattle.std.proofs.Common.{◌≤◌, ◌-◌, ℕ}
use Rattle.place_set.specs.Places.{has}
use Rattle.differential_kernel.specs.Places.{AreThose}
use Rattle.differential_kernel.proofs.list.list_all.Given as goal

abbrev pub decreases-places : goal.decreases-places
decreases-places l = l.set.bound - l.from

-- the places so far are listed
abbrev pub invariant-places : goal.invariant-places
invariant-places l = record {
  within : l.from ≤ l.set.bound;
  those : AreThose (has l.set) l.from l.list l.count;
}
