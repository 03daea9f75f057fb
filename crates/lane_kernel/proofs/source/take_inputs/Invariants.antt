use Rattle.std.proofs.Common.{◌≡◌, ◌<◌, ℕ}
use Rattle.circuit.specs.Value.{Cycle}
use Rattle.circuit.specs.Order.{net_at}
use Rattle.lane_words.specs.Forces.{AreForces}
use Rattle.lane_kernel.specs.Ends.{AreInputs, IsRight}
use Rattle.lane_words.specs.Gates.{plane}
use Rattle.lane_kernel.proofs.source.take_inputs.Given as goal

abbrev pub invariant-loop-j : goal.invariant-loop-j
invariant-loop-j g l =
    (k : ℕ) (x : Cycle) → k < g.W.Word.lanes → AreForces g.W.Word.lane_bit k l.forces x → x.inputs ≡ l.inputs → AreInputs x.circuit l.nets
    → (i : ℕ) → i < l.j → IsRight x (plane g.W.Word.lane_bit k l.words) (net_at l.nets i).0
