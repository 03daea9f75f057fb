use Rattle.std.proofs.Common.{◌≡◌, ◌<◌, ℕ, get_or}
use Rattle.circuit.specs.Value.{bit_at}
use Rattle.lane_words.specs.Gates.{plane}
use Rattle.place_set.specs.Places.{value_in}
use Rattle.differential_kernel.proofs.sweep.read_golden.Given as goal

-- the nets so far have their golden values
abbrev pub invariant-loop-at : goal.invariant-loop-at
invariant-loop-at g l =
    (k i : ℕ) → k < g.W.Word.lanes → i < l.at
    → bit_at (plane g.W.Word.lane_bit k l.values) (get_or l.cone.reads.items i 0) ≡ value_in l.row (get_or l.cone.reads.items i 0)
