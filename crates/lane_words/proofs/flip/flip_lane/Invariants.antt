use Rattle.std.proofs.Common.{◌≡◌, ◌≢◌, ◌<◌, ℕ, length, drop}
use Rattle.circuit.specs.Effects.{has_flip, inverted}
use Rattle.circuit.specs.Value.{bit_at}
use Rattle.lane_words.specs.Gates.{plane}
use Rattle.lane_words.specs.Loads.{somes}
use Rattle.lane_words.proofs.flip.flip_lane.Given as goal

-- what is left comes to what all of them do
abbrev pub invariant-loop-i : goal.invariant-loop-i
invariant-loop-i g l =
    ((p : ℕ) → p < length l.raw
    → inverted (has_flip (somes (drop l.i l.faults)) p l.cycle) (bit_at (plane g.W.Word.lane_bit l.lane l.raw) p)
    ≡ inverted (has_flip (somes l.faults) p l.cycle) (bit_at (plane g.W.Word.lane_bit l.lane l.initial.raw) p))
    × ((k : ℕ) → k < g.W.Word.lanes → k ≢ l.lane → plane g.W.Word.lane_bit k l.raw ≡ plane g.W.Word.lane_bit k l.initial.raw)
