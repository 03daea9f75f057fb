use Rattle.std.proofs.Common.{◌≡◌, ◌<◌, ◌≤◌, ◌-◌, ℕ, false, length}
use Rattle.place_set.specs.Places.{value_in}
use Rattle.golden_run.specs.Events.{AreValuesOf, IsSettled, IsSource, ordered_of}
use Rattle.golden_run.proofs.walk.walk.Given as goal

abbrev pub decreases-places : goal.decreases-places
decreases-places l = length l.wiring.order.now - l.from

-- the tables so far are settled, and of those behind all that aren't marked
abbrev pub invariant-places : goal.invariant-places
invariant-places l = record {
  within : l.from ≤ length l.wiring.order.now;
  few : l.evaluated ≤ l.from;
  values : AreValuesOf (ordered_of l.wiring) l.values;
  marked : l.values.all ≡ false;
  before : (q : ℕ) → q < l.from → IsSettled (ordered_of l.wiring) l.values.row.items q;
  sources : (n : ℕ) → IsSource l.wiring.netlist.now n → value_in l.values.row.items n ≡ value_in l.initial.values.row.items n;
}
