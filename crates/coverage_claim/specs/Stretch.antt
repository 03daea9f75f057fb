-- A stretch of cycles, and what two runs may be like in it, side by side: the golden one and one with faults. A frame is a cycle of it.
use Rattle.std.specs.Prelude.{◌≡◌, ◌+◌, ◌<◌, ◌≤◌, ℕ, suc, Bool, true, false, List, All, Option, Some, if◌then◌else◌, nat_lt}
use Rattle.std.specs.List.{slice_get}
use Rattle.circuit.specs.declared.parts.Driver.TheVariants.{Input, Table as FromTable}
use Rattle.circuit.specs.declared.parts.Latch.{Latch}
use Rattle.circuit.specs.declared.parts.NetId.{NetId}
use Rattle.circuit.specs.Circuit.{Circuit}
use Rattle.circuit.specs.Sound.{IsNet}
use Rattle.circuit.specs.Value.{driver_at, table_gives}
use Rattle.coverage_claim.specs.declared.parts.Held.{Held}
use Rattle.coverage_claim.specs.Region.{Region, may_show}

-- a set of pairs of a golden value and one with faults
abbrev pub Pairs : Type 0
Pairs = (golden faulty : Bool) → Bool

-- the value that a held input has in a cycle, if one is given
abbrev pub held_at : Held → ℕ → Option Bool
held_at h cycle = if nat_lt cycle h.from then h.before else Some h.value

-- first: the cycle of frame 0, where inputs are held
-- last: the last frame
-- silent: nets that are 0 in all frames without faults
-- until: and with faults too, up to this frame
-- start: the pairs that a latch may show in frame 0
pub record Stretch : Type 0 where
  pub circuit : Circuit
  pub region : Region
  pub held : List Held
  pub first : ℕ
  pub last : ℕ
  pub silent : List NetId
  pub until : ℕ
  pub start : Latch → Pairs

-- the value of each net in each frame
abbrev pub Values : Type 0
Values = (frame net : ℕ) → Bool

-- TWO RUNS ARE SO in the stretch: the golden one does what the circuit does, and the other one does so but for the region
-- tables, latches: a net has what its driver gives, in the golden run; with faults it may show something else
-- inputs: both runs have the same inputs, but for the region
pub record AreSo (s : Stretch) (golden faulty : Values) : Type 0 where
  pub tables : (frame k : ℕ) (net : NetId) → frame ≤ s.last → IsNet s.circuit net → driver_at s.circuit net.0 ≡ FromTable k
      → (golden frame net.0 ≡ table_gives s.circuit (golden frame) k)
      × (may_show (s.region net.0) (table_gives s.circuit (faulty frame) k) (faulty frame net.0) ≡ true)
  pub latches : (frame l : ℕ) (latch : Latch) → frame < s.last → slice_get s.circuit.latches l ≡ Some latch
      → (golden (suc frame) latch.to.0 ≡ golden frame latch.from.0)
      × (may_show (s.region latch.to.0) (faulty frame latch.from.0) (faulty (suc frame) latch.to.0) ≡ true)
  pub inputs : (frame k : ℕ) (net : NetId) → frame ≤ s.last → IsNet s.circuit net → driver_at s.circuit net.0 ≡ Input k
      → may_show (s.region net.0) (golden frame net.0) (faulty frame net.0) ≡ true
  pub held : (frame : ℕ) → frame ≤ s.last → All (λ h. (value : Bool) → held_at h (s.first + frame) ≡ Some value → golden frame h.net.0 ≡ value) s.held
  pub silent : (frame : ℕ) → frame ≤ s.last → All (λ net. (golden frame net.0 ≡ false) × (frame ≤ s.until → faulty frame net.0 ≡ false)) s.silent
  pub start : (l : ℕ) (latch : Latch) → slice_get s.circuit.latches l ≡ Some latch → s.start latch (golden 0 latch.to.0) (faulty 0 latch.to.0) ≡ true
