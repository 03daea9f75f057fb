-- Pairs with which latches have to start, whatever proves a claim.
use Rattle.std.specs.Prelude.{◌≡◌, ◌⊎◌, ℕ, Bool, true, ◌||◌, List, []}
use Rattle.circuit.specs.Circuit.{Circuit}
use Rattle.circuit.specs.declared.parts.Latch.{Latch}
use Rattle.coverage_claim.specs.Claim.{Claim}
use Rattle.coverage_claim.specs.Largest.{IsProvedSimply}
use Rattle.coverage_claim.specs.Region.{Region, may_show}
use Rattle.coverage_claim.specs.Stretch.{Pairs}
use Rattle.coverage_claim.specs.declared.parts.Site.{Site}
use Rattle.coverage_claim.specs.declared.parts.Site.TheVariants.{Free}
use Rattle.pair_sets.specs.Choice.{set_at}
use Rattle.pair_sets.specs.Pairs.{has}
use Rattle.pair_sets.specs.declared.pairs.PairSet.{PairSet}
use Rattle.claim_search.specs.Question.{IsPosed, with_pairs}
use Rattle.claim_search.specs.Window.{Allows}
use Rattle.claim_search.specs.declared.question.Posed.{Posed}

-- each net may show what its driver gives: nothing is done to it, or it is free
abbrev pub MayStay : Region → Type 0
MayStay region = (net : ℕ) (value : Bool) → may_show (region net) value value ≡ true

-- with whatever pairs a claim is proved simply, it allows these
abbrev pub Forces : Claim → List PairSet → Type 0
Forces claim forced = (pairs : Latch → Pairs) → IsProvedSimply (with_pairs claim pairs) → Allows (with_pairs claim pairs) forced

-- THESE PAIRS ARE FORCED: so it is of each claim that is posed and in which nets may stay as they are
abbrev pub AreForced : Circuit → Posed → List PairSet → Type 0
AreForced c p forced = (claim : Claim) → IsPosed c p claim → MayStay claim.region → Forces claim forced

-- what is posed, with another window
abbrev pub with_length : Posed → ℕ → Posed
with_length p window = record p { window = window }

-- ---- private steps, which the public contracts don't cite

-- each latch has the pairs of both lists
abbrev pub AreJoined : (old others new : List PairSet) → Type 0
AreJoined old others new = (l : ℕ) (a b : Bool) → has (set_at new l) a b ≡ (has (set_at old l) a b || has (set_at others l) a b)

-- pairs that are forced where nets have this site: those, or none
abbrev pub AreThoseFor : Site → (forced pairs : List PairSet) → Type 0
AreThoseFor site forced pairs = (pairs ≡ []) ⊎ ((site ≡ Free) × (pairs ≡ forced))
