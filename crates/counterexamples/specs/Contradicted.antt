-- A run that contradicts a claim: it is as the claim supposes, an observation net differs in it, and no alarm comes in time.
use Rattle.std.specs.Prelude.{◌≡◌, ◌+◌, ◌<◌, ◌≤◌, ℕ, Bool, true, false, not, List, [], ◌∷◌, length, All, Some}
use Rattle.std.specs.List.{list_any}
use Rattle.circuit.specs.Circuit.{Circuit}
use Rattle.circuit.specs.Order.{IsOrder}
use Rattle.circuit.specs.Sound.{IsNetlist}
use Rattle.circuit.specs.Trace.{trace}
use Rattle.circuit.specs.Value.{bit_at}
use Rattle.circuit.specs.declared.parts.Fault.{Fault}
use Rattle.circuit.specs.declared.parts.NetId.{NetId}
use Rattle.claim_search.specs.Answer.{IsNeverProvedSimply}
use Rattle.claim_search.specs.Question.{IsPosed, with_region}
use Rattle.claim_search.specs.declared.question.Posed.{Posed}
use Rattle.coverage_claim.specs.Claim.{Claim}
use Rattle.coverage_claim.specs.Region.{region_of}
use Rattle.coverage_claim.specs.Stretch.{held_at}
use Rattle.fault_list.specs.Faults.{fault_at}
use Rattle.fm_base.specs.Lists.{same_bit}

-- some of these nets has not its golden value
abbrev pub some_differs : List NetId → (golden shown : ℕ → Bool) → Bool
some_differs nets golden shown = list_any (λ net. not (same_bit (shown net.0) (golden net.0))) nets

-- some of these nets is 1
abbrev pub some_raised : List NetId → (shown : ℕ → Bool) → Bool
some_raised nets shown = list_any (λ net. shown net.0) nets

-- THE RUN CONTRADICTS that an alarm comes, with these vectors, where these faults act
-- held, quiet: without faults it is as is supposed: inputs have the values that they are held at, and no alarm net is 1 from the first cycle
-- that is spoken of
-- differs: in cycle t some observation net differs
-- silent: no alarm net is 1 with the faults from that first cycle to the end of the window behind t
-- lasts: though the run has the cycles that are looked ahead
pub record Contradicts (c : Circuit) (p : Posed) (faults : List Fault) (vectors : List (List Bool)) (t : ℕ) : Type 0 where
  pub later : p.from ≤ t
  pub lasts : t + p.window + p.ahead < length vectors
  pub held : (u : ℕ) → u < length vectors → All (λ h. (value : Bool) → held_at h u ≡ Some value → trace c [] vectors u h.net.0 ≡ value) p.held.now
  pub quiet : (u : ℕ) → p.from ≤ u → u < length vectors → some_raised p.alarms.now (trace c [] vectors u) ≡ false
  pub differs : some_differs p.observed.now (trace c [] vectors t) (trace c faults vectors t) ≡ true
  pub silent : (u : ℕ) → p.from ≤ u → u ≤ t + p.window → some_raised p.alarms.now (trace c faults vectors u) ≡ false

-- some run does, in some cycle
abbrev pub AreContradicted : Circuit → Posed → List Fault → Type 0
AreContradicted c p faults = (vectors : List (List Bool)) × (t : ℕ) × Contradicts c p faults vectors t

-- WHAT IS CONTRADICTED IS OPEN: with no pairs is it proved simply that an alarm comes for such a fault, where each held input has its later
-- value from the first cycle that is spoken of on
abbrev pub ContradictedIsOpen : Type 0
ContradictedIsOpen = (c : Circuit) (order : List NetId) (p : Posed) → IsNetlist c → IsOrder c order → All (λ h. h.from ≤ p.from) p.held.now
    → (fault : Fault) → AreContradicted c p (fault ∷ []) → (claim : Claim) → IsPosed c p claim → IsNeverProvedSimply (with_region claim (region_of c fault))

-- each marked fault of a list is contradicted
abbrev pub MarksContradicted : Circuit → Posed → List Fault → List Bool → Type 0
MarksContradicted c p faults marks = (i : ℕ) → bit_at marks i ≡ true → AreContradicted c p (fault_at faults i ∷ [])

-- and open
abbrev pub MarksOpen : Circuit → Posed → List Fault → List Bool → Type 0
MarksOpen c p faults marks =
    (claim : Claim) → IsPosed c p claim → (i : ℕ) → bit_at marks i ≡ true → IsNeverProvedSimply (with_region claim (region_of c (fault_at faults i)))
