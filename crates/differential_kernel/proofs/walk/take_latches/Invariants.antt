use Rattle.std.proofs.Common.{◌≡◌, ◌<◌, ◌≤◌, ◌+◌, ◌-◌, ℕ, length}
use Rattle.circuit.specs.Value.{bit_at}
use Rattle.lane_words.specs.Gates.{latch_at, plane}
use Rattle.place_set.specs.Places.{has}
use Rattle.differential_kernel.specs.Differences.{IsSame}
use Rattle.differential_kernel.specs.Parts.{AreLatchesOf, AreNetsOf}
use Rattle.differential_kernel.proofs.walk.take_latches.Given as goal

abbrev pub decreases-latches : goal.decreases-latches
decreases-latches g l = l.nets.marks.bound - l.from

-- the latches so far have taken what their nets differ in, and the others hold nothing
abbrev pub invariant-latches : goal.invariant-latches
invariant-latches g l = record {
  least : length l.cycle.order.now ≤ l.from;
  latches : AreLatchesOf g.W.Word.lanes g.W.Word.lane_bit l.cycle.netlist.now l.latches;
  nets : AreNetsOf g.W.Word.lanes g.W.Word.lane_bit l.cycle.fanout.now l.nets;
  words : l.nets.words.items ≡ l.initial.nets.words.items;
  places : l.nets.marks.bound ≡ length l.cycle.order.now + length l.cycle.netlist.now.latches;
  values : (k i : ℕ) → k < g.W.Word.lanes → length l.cycle.order.now + i < l.from → i < length l.cycle.netlist.now.latches
      → bit_at (plane g.W.Word.lane_bit k l.latches.raw.items) i ≡ bit_at (plane g.W.Word.lane_bit k l.initial.nets.words.items) (latch_at l.cycle.netlist.now.latches i).from.0;
  rest : (i : ℕ) → l.from ≤ length l.cycle.order.now + i → IsSame g.W.Word.lanes g.W.Word.lane_bit l.latches.raw.items i;
  ahead : (p : ℕ) → l.from ≤ p → has l.nets.marks p ≡ has l.initial.nets.marks p;
}
