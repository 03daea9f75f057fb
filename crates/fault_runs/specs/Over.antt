-- Faults of which nothing more comes.
use Rattle.std.specs.Prelude.{◌≡◌, ℕ, ◌<◌, ◌≤◌, false, List, Option, Some, None}
use Rattle.circuit.specs.declared.parts.Fault.{Fault}
use Rattle.circuit.specs.declared.parts.Fault.TheVariants.{Stuck, Flip, Pulse}
use Rattle.golden_difference.specs.Beside.{DoNothing}
use Rattle.place_set.specs.Places.{Places, has}

-- before cycle t no latch differs, and from then on the faults do nothing
pub record AreOver (x : List Fault) (t : ℕ) (state : Places) : Type 0 where
  pub latches : (latch : ℕ) → has state latch ≡ false
  pub idle : (u : ℕ) → t ≤ u → DoNothing x u

-- a fault that may be there acts in no cycle from this one on
abbrev pub IsIdleFrom : ℕ → Option Fault → Type 0
IsIdleFrom cycle None = Unit {0}
IsIdleFrom cycle (Some (Stuck net value)) = ⊥
IsIdleFrom cycle (Some (Flip latch own)) = own < cycle
IsIdleFrom cycle (Some (Pulse net own)) = own < cycle
