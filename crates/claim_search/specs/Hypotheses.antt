-- Whether held inputs and silent alarms contradict each other: then no run is as it is supposed, and a claim says nothing.
use Rattle.std.specs.Prelude.{◌≡◌, ◌≤◌, ℕ, Bool, false, Some}
use Rattle.std.specs.List.{slice_get}
use Rattle.circuit.specs.declared.parts.Latch.{Latch}
use Rattle.coverage_claim.specs.Claim.{Claim, lead_in, window_of}
use Rattle.coverage_claim.specs.Largest.{IsGone}
use Rattle.coverage_claim.specs.Region.{Region}
use Rattle.coverage_claim.specs.Rules.{this_pair}
use Rattle.coverage_claim.specs.Stretch.{AreSo, Pairs, Stretch, Values}
use Rattle.coverage_claim.specs.declared.parts.Site.TheVariants.{Intact}
use Rattle.claim_search.specs.LeadIn.{HasNoRuns}
use Rattle.claim_search.specs.Question.{with_pairs, with_region}
use Rattle.claim_search.specs.declared.hypotheses.Contradiction.{Contradiction}
use Rattle.claim_search.specs.declared.hypotheses.Contradiction.TheVariants.{Alarms, Held}

-- nothing is done anywhere
abbrev pub nowhere : Region
nowhere net = Intact

-- the claim where nothing is done
abbrev pub bare : Claim → Claim
bare claim = with_region claim nowhere

-- each latch starts with what it has in two runs at the claim's first cycle
abbrev pub as_in : Claim → (golden faulty : Values) → Latch → Pairs
as_in claim golden faulty latch = this_pair (golden claim.from latch.to.0) (faulty claim.from latch.to.0)

-- THEY CONTRADICT EACH OTHER
-- Held: with something done to some nets, or nothing, no two runs are so before the claim's first cycle
-- Alarms: where nothing is done, behind no two runs that are so before that cycle there is a window without an alarm
abbrev pub Contradict : Claim → Contradiction → Type 0
Contradict claim Held = (region : Region) × HasNoRuns (with_region claim region)
Contradict claim Alarms =
    (golden faulty : Values) → AreSo (lead_in (bare claim)) golden faulty
    → (later later_faulty : Values) → AreSo (window_of (with_pairs (bare claim) (as_in claim golden faulty))) later later_faulty → ⊥

-- each pair of some net is gone
abbrev pub IsVoid : Stretch → Type 0
IsVoid s = (frame : ℕ) × (net : ℕ) × (frame ≤ s.last) × ((a b : Bool) → IsGone s frame net a b)

-- each pair that a latch may not show at the claim's first cycle is gone
abbrev pub BeginsSimply : Claim → Type 0
BeginsSimply claim = (l : ℕ) (latch : Latch) → slice_get claim.circuit.latches l ≡ Some latch → (a b : Bool) → claim.apart latch a b ≡ false
    → IsGone (lead_in claim) claim.from latch.to.0 a b

-- THEY CONTRADICT EACH OTHER SIMPLY: where nothing is done each pair of some net is gone from the windows that begin so
abbrev pub ContradictSimply : Claim → Type 0
ContradictSimply claim = (pairs : Latch → Pairs) × BeginsSimply (with_pairs (bare claim) pairs) × IsVoid (window_of (with_pairs (bare claim) pairs))
