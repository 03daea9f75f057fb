-- A claim on every workload: whatever happens in a region, an alarm comes in time. What proves it.
use Rattle.std.specs.Prelude.{◌≡◌, ◌+◌, ◌<◌, ℕ, Bool, true, false, not, ◌&&◌, ◌||◌, List, [], All, Some}
use Rattle.std.specs.List.{slice_get}
use Rattle.fm_base.specs.Lists.{same_bit}
use Rattle.circuit.specs.declared.parts.Latch.{Latch}
use Rattle.circuit.specs.Circuit.{Circuit}
use Rattle.alarm_points.specs.declared.Points.{Points}
use Rattle.alarm_points.specs.PointsFile.{observed}
use Rattle.coverage_claim.specs.Region.{Region, may_show}
use Rattle.coverage_claim.specs.declared.parts.Held.{Held}
use Rattle.coverage_claim.specs.Stretch.{AreSo, Pairs, Stretch, Values}

-- from: the cycle from which on it is claimed; each held input has its later value by then
-- window: an alarm comes at most so many cycles after a difference
-- ahead: where the run has so many cycles more, in which the golden run raises none either
-- apart: the pairs that a latch may show at the start of a cycle, from then on
pub record Claim : Type 0 where
  pub circuit : Circuit
  pub points : Points
  pub held : List Held
  pub from : ℕ
  pub region : Region
  pub window : ℕ
  pub ahead : ℕ
  pub apart : Latch → Pairs

-- a window: some cycle from then on and those after it, in which no alarm is raised; ahead of them only the golden run is known to be silent
abbrev pub window_of : Claim → Stretch
window_of claim = record {
  circuit = claim.circuit;
  region = claim.region;
  held = claim.held;
  first = claim.from;
  last = claim.window + claim.ahead;
  silent = claim.points.alarm;
  until = claim.window;
  start = claim.apart;
}

-- the latch starts at its initial value, but for the region
abbrev pub initial : Region → Latch → Pairs
initial region latch golden_value faulty_value = same_bit golden_value latch.start && may_show (region latch.to.0) latch.start faulty_value

-- the first cycles of a run, and the one from which on it is claimed
abbrev pub lead_in : Claim → Stretch
lead_in claim = record {
  circuit = claim.circuit;
  region = claim.region;
  held = claim.held;
  first = 0;
  last = claim.from;
  silent = [];
  until = 0;
  start = initial claim.region;
}

-- the pair isn't of two equal values
abbrev pub unequal : Pairs
unequal golden_value faulty_value = not (same_bit golden_value faulty_value)

-- with this pair at the net that it reads, a latch may come to a pair that isn't among these
abbrev pub leaves : Claim → Latch → Pairs
leaves claim latch golden_value faulty_value =
    let wrongly : Bool → Bool = λ shown. may_show (claim.region latch.to.0) faulty_value shown && not (claim.apart latch golden_value shown) in
    wrongly false || wrongly true

-- same: no observation net differs in frame 0
-- again: and each latch starts the next cycle as it may start a window
pub record GoesOn (claim : Claim) (golden faulty : Values) : Type 0 where
  pub same : All (λ net. golden 0 net.0 ≡ faulty 0 net.0) (observed claim.points)
  pub again : (l : ℕ) (latch : Latch) → slice_get claim.circuit.latches l ≡ Some latch → leaves claim latch (golden 0 latch.from.0) (faulty 0 latch.from.0) ≡ false

-- each latch starts the claim's first cycle as it may start a window
abbrev pub Begins : Claim → (golden faulty : Values) → Type 0
Begins claim golden faulty = (l : ℕ) (latch : Latch) → slice_get claim.circuit.latches l ≡ Some latch
    → claim.apart latch (golden claim.from latch.to.0) (faulty claim.from latch.to.0) ≡ true

-- THE CLAIM IS PROVED: each window goes on as it began, and the lead-in ends so
pub record IsProved (claim : Claim) : Type 0 where
  pub goes_on : (golden faulty : Values) → AreSo (window_of claim) golden faulty → GoesOn claim golden faulty
  pub begins : (golden faulty : Values) → AreSo (lead_in claim) golden faulty → Begins claim golden faulty

-- and no observation net differs in the lead-in
abbrev pub IsNeverEarly : Claim → Type 0
IsNeverEarly claim = (golden faulty : Values) → AreSo (lead_in claim) golden faulty
    → (frame : ℕ) → frame < claim.from → All (λ net. golden frame net.0 ≡ faulty frame net.0) (observed claim.points)
