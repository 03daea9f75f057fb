use Rattle.std.proofs.Common.{◌≡◌, ◌<◌, ℕ}
use Rattle.circuit.specs.Value.{Cycle}
use Rattle.lane_words.specs.Forces.{AreForces}
use Rattle.lane_kernel.specs.Ends.{IsRight}
use Rattle.lane_words.specs.Gates.{AreLatches, latch_at, plane}
use Rattle.lane_kernel.proofs.source.take_latches.Given as goal

abbrev pub invariant-loop-j : goal.invariant-loop-j
invariant-loop-j g l =
    (k : ℕ) (x : Cycle) → k < g.W.Word.lanes → AreForces g.W.Word.lane_bit k l.forces x → x.state ≡ plane g.W.Word.lane_bit k l.raw → AreLatches x.circuit l.latches
    → ((i : ℕ) → i < l.j → IsRight x (plane g.W.Word.lane_bit k l.words) (latch_at l.latches i).to.0)
    × ((m : ℕ) → IsRight x (plane g.W.Word.lane_bit k l.initial.words) m → IsRight x (plane g.W.Word.lane_bit k l.words) m)
