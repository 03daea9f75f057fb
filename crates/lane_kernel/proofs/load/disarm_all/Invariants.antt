use Rattle.std.proofs.Common.{◌≡◌, ◌<◌, ℕ, Bool, cond, length, drop, get_or}
use Rattle.lane_words.specs.declared.force.Force.{Force}
use Rattle.lane_words.specs.Forces.{force_value}
use Rattle.lane_words.specs.Loads.{some_names}
use Rattle.lane_kernel.proofs.load.disarm_all.Given as goal

-- only nets that what is left names are not as they are
abbrev pub invariant-loop-faults : goal.invariant-loop-faults
invariant-loop-faults g l =
    (k n : ℕ) (d : Force g.row.W.Denot) (own : Bool) → k < g.W.Word.lanes → n < length l.forces
    → cond (some_names (drop l.faults-index l.loads) n) own (force_value g.W.Word.lane_bit k (get_or l.forces n d) own) ≡ own
