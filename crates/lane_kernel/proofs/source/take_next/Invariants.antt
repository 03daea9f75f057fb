use Rattle.std.proofs.Common.{◌≡◌, ◌<◌, ℕ, map, take}
use Rattle.circuit.specs.Value.{bit_at}
use Rattle.lane_words.specs.Gates.{plane}
use Rattle.lane_kernel.proofs.source.take_next.Given as goal

abbrev pub invariant-loop-j : goal.invariant-loop-j
invariant-loop-j g l =
    (k : ℕ) → k < g.W.Word.lanes
    → take l.j (plane g.W.Word.lane_bit k l.raw) ≡ map (λ latch. bit_at (plane g.W.Word.lane_bit k l.words) latch.from.0) (take l.j l.latches)
