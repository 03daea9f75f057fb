use Rattle.std.proofs.Common.{◌≡◌, ◌≤◌, ◌<◌, ℕ, length}
use Rattle.circuit.specs.Effects.{has_flip, inverted}
use Rattle.circuit.specs.Value.{bit_at}
use Rattle.lane_words.specs.Gates.{plane}
use Rattle.lane_words.specs.Loads.{loaded_faults}
use Rattle.differential_kernel.specs.Differences.{AreSameOff}
use Rattle.differential_kernel.proofs.flip.flip_all.Given as goal

-- the lanes so far are inverted, and the others are as they were
abbrev pub invariant-loop-lane : goal.invariant-loop-lane
invariant-loop-lane g l =
    ((k p : ℕ) → k < l.lane → p < length l.latches.raw.items
    → bit_at (plane g.W.Word.lane_bit k l.latches.raw.items) p ≡ inverted (has_flip (loaded_faults l.loads k) p l.cycle) (bit_at (plane g.W.Word.lane_bit k l.initial.latches.raw.items) p))
    × ((k : ℕ) → l.lane ≤ k → k < g.W.Word.lanes → plane g.W.Word.lane_bit k l.latches.raw.items ≡ plane g.W.Word.lane_bit k l.initial.latches.raw.items)
    × (length l.latches.raw.items ≡ length l.initial.latches.raw.items)
    × (l.latches.live.bound ≡ l.initial.latches.live.bound)
    × (AreSameOff g.W.Word.lanes g.W.Word.lane_bit l.initial.latches.live l.initial.latches.raw.items → AreSameOff g.W.Word.lanes g.W.Word.lane_bit l.latches.live l.latches.raw.items)
