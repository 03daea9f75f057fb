use Rattle.std.proofs.Common.{◌≡◌, ◌<◌, ◌≤◌, ◌+◌, ◌⊎◌, ℕ, List, Option, get_or}
use Rattle.circuit.specs.declared.parts.Fault.{Fault}
use Rattle.lane_words.proofs.arm.place.Given as goal

abbrev pub invariant-loop-k : goal.invariant-loop-k
invariant-loop-k l =
    ((k : ℕ) (d : List (Option Fault)) → k < l.k → get_or l.loads (l.from + k) d ≡ get_or l.faults k d)
    × ((j : ℕ) (d : List (Option Fault)) → (j < l.from) ⊎ (l.from + l.k ≤ j) → get_or l.loads j d ≡ get_or l.initial.loads j d)
