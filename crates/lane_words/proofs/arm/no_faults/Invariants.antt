use Rattle.std.proofs.Common.{◌≡◌, [], ◌∷◌, replicate}
use Rattle.std.specs.Prelude.{None}
use Rattle.lane_words.proofs.arm.no_faults.Given as goal

-- each lane so far has no fault
abbrev pub invariant-loop : goal.invariant-loop
invariant-loop l = l.loads.items ≡ replicate l.counter (None ∷ None ∷ [])
