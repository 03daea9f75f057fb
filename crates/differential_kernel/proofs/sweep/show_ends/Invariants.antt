use Rattle.std.proofs.Common.{◌≡◌, ◌≢◌, ◌<◌, ℕ, true, length, get_or}
use Rattle.circuit.specs.Value.{bit_at}
use Rattle.lane_words.specs.Bits.{either}
use Rattle.lane_words.specs.Gates.{latch_at, plane}
use Rattle.place_set.specs.Places.{has, value_in}
use Rattle.differential_kernel.proofs.sweep.show_ends.Given as goal

-- the nets of the latches so far have their values, and nets that no latch of the cone drives are as they were
abbrev pub invariant-loop-at : goal.invariant-loop-at
invariant-loop-at g l = record {
  shown : (k i : ℕ) → k < g.W.Word.lanes → i < l.at
      → bit_at (plane g.W.Word.lane_bit k l.values) (latch_at l.netlist.latches (get_or l.cone.ends.items i 0)).to.0
      ≡ either (value_in l.row (latch_at l.netlist.latches (get_or l.cone.ends.items i 0)).to.0) (bit_at (plane g.W.Word.lane_bit k l.raw) (get_or l.cone.ends.items i 0));
  others : (k n : ℕ) → ((i : ℕ) → i < length l.netlist.latches → has l.cone.latches i ≡ true → n ≢ (latch_at l.netlist.latches i).to.0)
      → bit_at (plane g.W.Word.lane_bit k l.values) n ≡ bit_at (plane g.W.Word.lane_bit k l.initial.values) n;
}
