use Rattle.std.proofs.Common.{◌≡◌, ◌≤◌, ◌<◌, ℕ, true, length}
use Rattle.std.specs.Prelude.{filter, slice_index}
use Rattle.fm_base.specs.Lists.{below}
use Rattle.collapse_map.specs.Collapsed.{is_own}
use Rattle.fault_collapse.proofs.chosen.choose.Given as goal

abbrev pub invariant-loop-i : goal.invariant-loop-i
invariant-loop-i l = record {
  few : length l.numbers.items ≤ l.i;
  numbers : l.numbers.items ≡ filter (is_own l.collapse) (below l.i);
  sized : length l.places.items ≡ length l.collapse.faults;
  each : (k : ℕ) → k < l.i → is_own l.collapse k ≡ true
      → (slice_index l.places.items k < length l.numbers.items) × (slice_index l.numbers.items (slice_index l.places.items k) ≡ k);
}
