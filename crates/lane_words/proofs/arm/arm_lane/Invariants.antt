use Rattle.std.proofs.Common.{◌≡◌, ◌≢◌, ◌<◌, ℕ, Bool, cond, length, drop, get_or}
use Rattle.circuit.specs.Effects.{affected}
use Rattle.lane_words.specs.declared.force.Force.{Force}
use Rattle.lane_words.specs.Forces.{force_value}
use Rattle.lane_words.specs.Loads.{names, somes}
use Rattle.lane_words.proofs.arm.arm_lane.Given as goal

-- what is left comes to what all of them do, and the other lanes are as they were
abbrev pub invariant-loop-fault : goal.invariant-loop-fault
invariant-loop-fault g l =
    ((n : ℕ) (d : Force g.row.W.Denot) (own : Bool) → n < length l.forces
    → cond (names (drop l.fault-index l.faults) n) (affected (somes l.faults) l.cycle n own) (force_value g.W.Word.lane_bit l.lane (get_or l.forces n d) own)
    ≡ cond (names l.faults n) (affected (somes l.faults) l.cycle n own) (force_value g.W.Word.lane_bit l.lane (get_or l.initial.forces n d) own))
    × ((k n : ℕ) (d : Force g.row.W.Denot) (own : Bool) → k < g.W.Word.lanes → k ≢ l.lane → n < length l.forces
    → force_value g.W.Word.lane_bit k (get_or l.forces n d) own ≡ force_value g.W.Word.lane_bit k (get_or l.initial.forces n d) own)
