-- The lead-in of a claim, cycle by cycle: what it leaves of the latches, and whether an observation net may differ in it.
use Rattle.std.specs.Prelude.{◌≡◌, ◌<◌, ◌≤◌, ℕ, suc, Bool, true, false, List, [], All, Some}
use Rattle.std.specs.List.{slice_get}
use Rattle.alarm_points.specs.PointsFile.{observed}
use Rattle.circuit.specs.Sound.{IsNet}
use Rattle.circuit.specs.Value.{driver_at}
use Rattle.circuit.specs.declared.parts.Driver.TheVariants.{Table as FromTable}
use Rattle.circuit.specs.declared.parts.Latch.{Latch}
use Rattle.circuit.specs.declared.parts.NetId.{NetId}
use Rattle.coverage_claim.specs.Claim.{Claim, IsNeverEarly, initial, lead_in, unequal}
use Rattle.coverage_claim.specs.Largest.{IsGone}
use Rattle.coverage_claim.specs.Rules.{Sets, everything}
use Rattle.coverage_claim.specs.Stretch.{AreSo, Stretch, Values}
use Rattle.pair_sets.specs.Choice.{set_at}
use Rattle.pair_sets.specs.Pairs.{has, shown}
use Rattle.pair_sets.specs.declared.pairs.PairSet.{PairSet}
use Rattle.region_search.specs.Settled.{AreSome, HoldsAll, IsLatchSettled, IsTableSettled, NothingWaits, PassesAlone}
use Rattle.claim_search.specs.Window.{starts_of}
use Rattle.claim_search.specs.declared.lead.LeadIn.{LeadIn}
use Rattle.claim_search.specs.declared.lead.LeadIn.TheVariants.{Agrees, MayDiffer, NoRuns}

-- NEVER EARLY, SIMPLY: before the claim's first cycle each pair with which an observation net would differ is gone
abbrev pub IsNeverEarlySimply : Claim → Type 0
IsNeverEarlySimply claim = (frame : ℕ) → frame < claim.from → All (λ net. (a b : Bool) → unequal a b ≡ true → IsGone (lead_in claim) frame net.0 a b) (observed claim.points)

-- THE LEAD-IN LEAVES THESE STARTS: at the claim's first cycle latches have these pairs alone
-- holds: all that two runs have
-- simply: and none that is gone
pub record LeavesStarts (claim : Claim) (starts : List PairSet) : Type 0 where
  pub holds : (golden faulty : Values) → AreSo (lead_in claim) golden faulty → (l : ℕ) (latch : Latch) → slice_get claim.circuit.latches l ≡ Some latch
      → has (set_at starts l) (golden claim.from latch.to.0) (faulty claim.from latch.to.0) ≡ true
  pub simply : (l : ℕ) (latch : Latch) → slice_get claim.circuit.latches l ≡ Some latch → (a b : Bool) → has (set_at starts l) a b ≡ true
      → ¬ (IsGone (lead_in claim) claim.from latch.to.0 a b)

-- no two runs are so before the claim's first cycle
abbrev pub HasNoRuns : Claim → Type 0
HasNoRuns claim = (golden faulty : Values) → AreSo (lead_in claim) golden faulty → ⊥

-- WHAT A LEAD-IN HAS SHOWN of a claim
abbrev pub IsLedIn : Claim → List PairSet → LeadIn → Type 0
IsLedIn claim starts NoRuns = HasNoRuns claim
IsLedIn claim starts MayDiffer = LeavesStarts claim starts × (¬ (IsNeverEarlySimply claim))
IsLedIn claim starts Agrees = LeavesStarts claim starts × IsNeverEarly claim

-- ---- private steps, which the public contracts don't cite

-- one cycle of it, in which latches start so
abbrev pub lead_cycle : Claim → ℕ → List PairSet → Stretch
lead_cycle claim cycle starts = record {
  circuit = claim.circuit;
  region = claim.region;
  held = claim.held;
  first = cycle;
  last = 0;
  silent = [];
  until = 0;
  start = starts_of claim.circuit starts;
}

-- the largest sets of a cycle
pub record IsCycle (claim : Claim) (cycle : ℕ) (starts : List PairSet) (q : Sets) : Type 0 where
  pub some : AreSome (lead_cycle claim cycle starts) q
  pub nothing : NothingWaits (lead_cycle claim cycle starts) q
  pub holds : HoldsAll (lead_cycle claim cycle starts) everything q

-- THE CYCLES BEFORE ONE: their largest sets, and what latches start it with
-- starts_hold: the pairs that any two runs have there
-- starts_from, starts_first: what a latch shows of the net that it reads, or of its initial value
pub record IsLedTo (claim : Claim) (cycle : ℕ) (starts : List PairSet) (q : Sets) : Type 0 where
  pub some : (frame net : ℕ) → frame < cycle → (a : Bool) × (b : Bool) × (q frame net a b ≡ true)
  pub alone : (frame net : ℕ) (a b : Bool) → frame < cycle → q frame net a b ≡ true → PassesAlone (lead_in claim) frame net a b
  pub tables : (frame k : ℕ) (own : NetId) → frame < cycle → IsNet claim.circuit own → driver_at claim.circuit own.0 ≡ FromTable k → IsTableSettled (lead_in claim) q frame k own
  pub latches : (frame l : ℕ) (latch : Latch) → suc frame < cycle → slice_get claim.circuit.latches l ≡ Some latch → IsLatchSettled (lead_in claim) q frame latch
  pub holds : (golden faulty : Values) → AreSo (lead_in claim) golden faulty → (frame net : ℕ) → frame < cycle → q frame net (golden frame net) (faulty frame net) ≡ true
  pub starts_hold : cycle ≤ claim.from → (golden faulty : Values) → AreSo (lead_in claim) golden faulty → (l : ℕ) (latch : Latch) → slice_get claim.circuit.latches l ≡ Some latch
      → has (set_at starts l) (golden cycle latch.to.0) (faulty cycle latch.to.0) ≡ true
  pub starts_from : (before : ℕ) → suc before ≡ cycle → (l : ℕ) (latch : Latch) → slice_get claim.circuit.latches l ≡ Some latch → (a b : Bool)
      → has (set_at starts l) a b ≡ shown (claim.region latch.to.0) (q before latch.from.0) a b
  pub starts_first : cycle ≡ 0 → (l : ℕ) (latch : Latch) → slice_get claim.circuit.latches l ≡ Some latch → (a b : Bool) → has (set_at starts l) a b ≡ initial claim.region latch a b

-- no observation net differs in a cycle
abbrev pub SameIn : Claim → Sets → ℕ → Type 0
SameIn claim q frame = All (λ net. (a b : Bool) → unequal a b ≡ true → q frame net.0 a b ≡ false) (observed claim.points)

-- whether one may differ in one of them
abbrev pub HasSeen : Claim → ℕ → Sets → (differs : Bool) → Type 0
HasSeen claim cycle q true = (frame : ℕ) × (frame < cycle) × (¬ (SameIn claim q frame))
HasSeen claim cycle q false = (frame : ℕ) → frame < cycle → SameIn claim q frame

-- SO MUCH IS KNOWN before a cycle
abbrev pub IsKnownTo : Claim → ℕ → List PairSet → (differs : Bool) → Type 0
IsKnownTo claim cycle starts differs = (q : Sets) × IsLedTo claim cycle starts q × HasSeen claim cycle q differs

-- what a latch starts the next cycle with: what its own net shows of the pairs of the net that it reads
abbrev pub AreNext : Claim → Sets → List PairSet → Type 0
AreNext claim q starts = (l : ℕ) (latch : Latch) → slice_get claim.circuit.latches l ≡ Some latch → (a b : Bool)
    → has (set_at starts l) a b ≡ shown (claim.region latch.to.0) (q 0 latch.from.0) a b
