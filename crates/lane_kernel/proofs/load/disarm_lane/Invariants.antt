use Rattle.std.proofs.Common.{◌≡◌, ◌<◌, ℕ, Bool, cond, length, drop, get_or}
use Rattle.lane_words.specs.declared.force.Force.{Force}
use Rattle.lane_words.specs.Forces.{force_value}
use Rattle.lane_words.specs.Loads.{names}
use Rattle.lane_kernel.proofs.load.disarm_lane.Given as goal

-- what is left comes to what all of them do
abbrev pub invariant-loop-fault : goal.invariant-loop-fault
invariant-loop-fault g l =
    (k n : ℕ) (d : Force g.row.W.Denot) (own : Bool) → k < g.W.Word.lanes → n < length l.forces
    → cond (names (drop l.fault-index l.faults) n) own (force_value g.W.Word.lane_bit k (get_or l.forces n d) own)
    ≡ cond (names l.faults n) own (force_value g.W.Word.lane_bit k (get_or l.initial.forces n d) own)
