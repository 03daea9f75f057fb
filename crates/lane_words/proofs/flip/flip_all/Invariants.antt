use Rattle.std.proofs.Common.{◌≡◌, ◌≤◌, ◌<◌, ℕ, length}
use Rattle.circuit.specs.Effects.{has_flip, inverted}
use Rattle.circuit.specs.Value.{bit_at}
use Rattle.lane_words.specs.Gates.{plane}
use Rattle.lane_words.specs.Loads.{loaded_faults}
use Rattle.lane_words.proofs.flip.flip_all.Given as goal

-- the lanes so far are inverted, and the others are as they were
abbrev pub invariant-loop-lane : goal.invariant-loop-lane
invariant-loop-lane g l =
    ((k p : ℕ) → k < l.lane → p < length l.raw
    → bit_at (plane g.W.Word.lane_bit k l.raw) p ≡ inverted (has_flip (loaded_faults l.loads k) p l.cycle) (bit_at (plane g.W.Word.lane_bit k l.initial.raw) p))
    × ((k : ℕ) → l.lane ≤ k → k < g.W.Word.lanes → plane g.W.Word.lane_bit k l.raw ≡ plane g.W.Word.lane_bit k l.initial.raw)
