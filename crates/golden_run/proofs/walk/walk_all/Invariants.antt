use Rattle.std.proofs.Common.{◌≡◌, ◌<◌, ◌≤◌, ℕ, length}
use Rattle.place_set.specs.Places.{value_in}
use Rattle.golden_run.specs.Events.{IsSettled, IsSource, ordered_of}
use Rattle.golden_run.proofs.walk.walk_all.Given as goal

-- the tables so far are settled
abbrev pub invariant-loop-place : goal.invariant-loop-place
invariant-loop-place l = record {
  few : l.changed ≤ l.place;
  count : length l.row ≡ length l.initial.row;
  before : (q : ℕ) → q < l.place → IsSettled (ordered_of l.wiring) l.row q;
  sources : (n : ℕ) → IsSource l.wiring.netlist.now n → value_in l.row n ≡ value_in l.initial.row n;
}
