use Rattle.std.proofs.Common.{◌≡◌, ◌/◌, ◌<◌, ◌≤◌, ◌||◌, ℕ, not}
use Rattle.place_set.specs.Places.{value_in}
use Rattle.testbench.proofs.seen.add_row.Given as goal

-- the words so far have the values of the row too, and the others are as they were
abbrev pub invariant-loop-at : goal.invariant-loop-at
invariant-loop-at l = record {
  ones_done : (net : ℕ) → net / 64 < l.at → value_in l.ones net ≡ (value_in l.initial.ones net || value_in l.row net);
  ones_left : (net : ℕ) → l.at ≤ net / 64 → value_in l.ones net ≡ value_in l.initial.ones net;
  zeros_done : (net : ℕ) → net / 64 < l.at → value_in l.zeros net ≡ (value_in l.initial.zeros net || not (value_in l.row net));
  zeros_left : (net : ℕ) → l.at ≤ net / 64 → value_in l.zeros net ≡ value_in l.initial.zeros net;
}
