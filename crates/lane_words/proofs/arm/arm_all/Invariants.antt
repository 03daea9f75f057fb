use Rattle.std.proofs.Common.{◌≡◌, ◌≤◌, ◌<◌, ℕ, Bool, [], cond, length, get_or}
use Rattle.circuit.specs.Effects.{affected}
use Rattle.lane_words.specs.declared.force.Force.{Force}
use Rattle.lane_words.specs.Forces.{force_value}
use Rattle.lane_words.specs.Loads.{loaded_faults, names}
use Rattle.lane_words.proofs.arm.arm_all.Given as goal

-- the lanes so far have the forces of their faults, and the others are as they were
abbrev pub invariant-loop-lane : goal.invariant-loop-lane
invariant-loop-lane g l =
    ((k : ℕ) → k < l.lane → (n : ℕ) (d : Force g.row.W.Denot) (own : Bool) → n < length l.forces
    → force_value g.W.Word.lane_bit k (get_or l.forces n d) own
    ≡ cond (names (get_or l.loads k []) n) (affected (loaded_faults l.loads k) l.cycle n own) (force_value g.W.Word.lane_bit k (get_or l.initial.forces n d) own))
    × ((k n : ℕ) (d : Force g.row.W.Denot) (own : Bool) → l.lane ≤ k → k < g.W.Word.lanes → n < length l.forces
    → force_value g.W.Word.lane_bit k (get_or l.forces n d) own ≡ force_value g.W.Word.lane_bit k (get_or l.initial.forces n d) own)
