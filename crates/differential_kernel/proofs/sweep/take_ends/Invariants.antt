use Rattle.std.proofs.Common.{◌≡◌, ℕ, ◌<◌, get_or}
use Rattle.circuit.specs.Value.{bit_at}
use Rattle.lane_words.specs.Gates.{latch_at, plane}
use Rattle.differential_kernel.specs.Differences.{AreSameOff, read_in}
use Rattle.differential_kernel.proofs.sweep.take_ends.Given as goal

-- the latches so far took what their nets differ in, and those outside of the cone hold nothing
abbrev pub invariant-loop-at : goal.invariant-loop-at
invariant-loop-at g l = record {
  taken : (k i : ℕ) → k < g.W.Word.lanes → i < l.at
      → bit_at (plane g.W.Word.lane_bit k l.raw) (get_or l.cone.ends.items i 0)
      ≡ read_in g.W.Word.lane_bit k l.row l.values (latch_at l.netlist.latches (get_or l.cone.ends.items i 0)).from.0;
  same : AreSameOff g.W.Word.lanes g.W.Word.lane_bit l.cone.latches l.raw;
}
