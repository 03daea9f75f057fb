use Rattle.std.proofs.Common.{◌≡◌, ◌<◌, ◌≤◌, ◌-◌, ℕ, false, length}
use Rattle.circuit.specs.Value.{bit_at, driver_at}
use Rattle.golden_difference.specs.Beside.{latched}
use Rattle.lane_words.specs.Gates.{plane}
use Rattle.place_set.specs.Places.{has}
use Rattle.differential_kernel.proofs.Latching.{held_below}
use Rattle.differential_kernel.specs.Noted.{AreNoted}
use Rattle.differential_kernel.specs.Parts.{AreLatchesOf}
use Rattle.differential_kernel.proofs.sources.take_live.Given as goal

abbrev pub decreases-latches : goal.decreases-latches
decreases-latches g l = l.latches.live.bound - l.from

-- the latches so far hold nothing, and their nets differ in what they held
abbrev pub invariant-latches : goal.invariant-latches
invariant-latches g l = record {
  latches : AreLatchesOf g.W.Word.lanes g.W.Word.lane_bit l.cycle.netlist.now l.latches;
  noted : AreNoted g.W.Word.lanes g.W.Word.lane_bit l.cycle.fanout.now 0 l.nets;
  none : (n : ℕ) → n < l.from → has l.latches.live n ≡ false;
  rest : (k n : ℕ) → k < g.W.Word.lanes → l.from ≤ n → bit_at (plane g.W.Word.lane_bit k l.latches.raw.items) n ≡ bit_at (plane g.W.Word.lane_bit k l.initial.latches.raw.items) n;
  values : (k n : ℕ) → k < g.W.Word.lanes → n < length l.cycle.netlist.now.drivers
      → bit_at (plane g.W.Word.lane_bit k l.nets.words.items) n ≡ latched (held_below l.from (bit_at (plane g.W.Word.lane_bit k l.initial.latches.raw.items))) (driver_at l.cycle.netlist.now n);
}
