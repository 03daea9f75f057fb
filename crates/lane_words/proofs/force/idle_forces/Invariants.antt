use Rattle.std.proofs.Common.{◌≡◌, ◌<◌, ℕ, Bool, length, get_or}
use Rattle.lane_words.specs.declared.force.Force.{Force}
use Rattle.lane_words.specs.Forces.{force_value}
use Rattle.lane_words.proofs.force.idle_forces.Given as goal

abbrev pub invariant-loop-n : goal.invariant-loop-n
invariant-loop-n g l =
    (length l.forces.items ≡ l.n)
    × ((i : ℕ) (d : Force g.row.W.Denot) → i < l.n → (k : ℕ) (own : Bool) → k < g.W.Word.lanes → force_value g.W.Word.lane_bit k (get_or l.forces.items i d) own ≡ own)
