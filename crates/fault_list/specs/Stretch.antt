-- The cycles of flips: listed one by one, or those of a stretch of the run.
use Rattle.std.specs.Prelude.{◌≡◌, ℕ, ◌+◌, ◌-◌, ◌*◌, ◌/◌, ◌≤◌, List, map, Option, Some, None}
use Rattle.fm_base.specs.Lists.{below}
use Rattle.fault_list.specs.declared.stretch.Stretch.{Stretch}
use Rattle.fault_list.specs.Faults.{AreCycles}

-- FIRST, FIRST + STEP, and so on, as far as LAST
abbrev pub cycles_within : Stretch → List ℕ
cycles_within s = map (λ k. s.first + s.step * k) (below ((s.last - s.first) / s.step + 1))

-- FIRST isn't above LAST, none is above 65,535, and a step leads on
pub record IsStretch (s : Stretch) : Type 0 where
  pub ordered : s.first ≤ s.last
  pub small : s.last ≤ 65535
  pub step : (1 ≤ s.step) × (s.step ≤ 65535)

-- the cycles of flips: those of the stretch that gives them, or else at most 16 that are listed
abbrev pub AreFlipCycles : Option Stretch → List ℕ → Type 0
AreFlipCycles None flips = AreCycles 16 flips
AreFlipCycles (Some s) flips = IsStretch s × (flips ≡ cycles_within s)
