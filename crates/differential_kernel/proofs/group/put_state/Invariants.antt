use Rattle.std.proofs.Common.{◌≡◌, ◌≢◌, ◌<◌, ◌≤◌, ◌-◌, ◌||◌, ℕ, length}
use Rattle.circuit.specs.Value.{bit_at}
use Rattle.lane_words.specs.Gates.{plane}
use Rattle.place_set.specs.Places.{has}
use Rattle.differential_kernel.specs.Differences.{AreSameOff}
use Rattle.differential_kernel.proofs.group.put_state.Given as goal

abbrev pub decreases-latches : goal.decreases-latches
decreases-latches g l = l.state.bound - l.from

-- the latches so far differ, where they are in the set, and all else is as it was
abbrev pub invariant-latches : goal.invariant-latches
invariant-latches g l = record {
  raw : length l.latches.raw.items ≡ length l.initial.latches.raw.items;
  bound : l.latches.live.bound ≡ l.initial.latches.live.bound;
  done : (n : ℕ) → n < l.from
      → bit_at (plane g.W.Word.lane_bit l.lane l.latches.raw.items) n ≡ (has l.state n || bit_at (plane g.W.Word.lane_bit l.lane l.initial.latches.raw.items) n);
  rest : (n : ℕ) → l.from ≤ n → bit_at (plane g.W.Word.lane_bit l.lane l.latches.raw.items) n ≡ bit_at (plane g.W.Word.lane_bit l.lane l.initial.latches.raw.items) n;
  others : (k n : ℕ) → k < g.W.Word.lanes → k ≢ l.lane
      → bit_at (plane g.W.Word.lane_bit k l.latches.raw.items) n ≡ bit_at (plane g.W.Word.lane_bit k l.initial.latches.raw.items) n;
  same : AreSameOff g.W.Word.lanes g.W.Word.lane_bit l.latches.live l.latches.raw.items;
}
