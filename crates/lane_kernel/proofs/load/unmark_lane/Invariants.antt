use Rattle.std.proofs.Common.{◌≡◌, ◌<◌, ℕ, false, cond, length, drop}
use Rattle.circuit.specs.Value.{bit_at}
use Rattle.lane_words.specs.Loads.{names}
use Rattle.lane_kernel.proofs.load.unmark_lane.Given as goal

-- what is left comes to what all of them do
abbrev pub invariant-loop-fault : goal.invariant-loop-fault
invariant-loop-fault l =
    (n : ℕ) → n < length l.marks
    → cond (names (drop l.fault-index l.faults) n) false (bit_at l.marks n) ≡ cond (names l.faults n) false (bit_at l.initial.marks n)
