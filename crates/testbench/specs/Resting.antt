-- Cycles in which faults change nothing.
use Rattle.std.specs.Prelude.{◌≡◌, ℕ, ◌<◌, ◌≤◌, Bool, false, List, length}
use Rattle.circuit.specs.declared.parts.Fault.{Fault}
use Rattle.circuit.specs.Circuit.{Circuit}
use Rattle.golden_difference.specs.Beside.{state_differs, trace_differs}

-- at the start of cycle t no latch differs from the golden run
abbrev pub IsGoldenAt : Circuit → List Fault → List (List Bool) → ℕ → Type 0
IsGoldenAt c faults vectors t = (latch : ℕ) → latch < length c.latches → state_differs c faults vectors t latch ≡ false

-- where no latch differs at the start of cycle `from`, no net differs from there to before cycle `to`
abbrev pub IsStill : Circuit → List Fault → List (List Bool) → (from to : ℕ) → Type 0
IsStill c faults vectors from to =
    IsGoldenAt c faults vectors from → (t net : ℕ) → from ≤ t → t < to → net < length c.drivers → trace_differs c faults vectors t net ≡ false

-- THE FAULTS REST in these cycles: where no latch differs before them, no net differs in them, and no latch behind them
pub record Rest (c : Circuit) (faults : List Fault) (vectors : List (List Bool)) (from to : ℕ) : Type 0 where
  pub nets : IsStill c faults vectors from to
  pub latches : IsGoldenAt c faults vectors from → IsGoldenAt c faults vectors to
