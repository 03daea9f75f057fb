-- What is known of a run in all lanes. Private steps, which the public contract doesn't cite.
use Rattle.std.specs.Prelude.{◌≡◌, ◌+◌, ◌<◌, ◌≤◌, ℕ, Bool, true, false, List, [], ◌∷◌, length, All, Some, slice_index, slice_index_or}
use Rattle.circuit.specs.Circuit.{Circuit}
use Rattle.circuit.specs.Trace.{trace}
use Rattle.circuit.specs.declared.parts.Fault.{Fault}
use Rattle.claim_search.specs.declared.question.Posed.{Posed}
use Rattle.coverage_claim.specs.Stretch.{held_at}
use Rattle.coverage_claim.specs.declared.parts.Held.{Held}
use Rattle.fault_list.specs.Faults.{fault_at}
use Rattle.fm_base.specs.Planes.{bit}
use Rattle.lane_words.specs.Bank.{AreAfter, Bank}
use Rattle.counterexamples.specs.Contradicted.{AreContradicted, some_differs, some_raised}
use Rattle.counterexamples.specs.declared.look.Seen.{Seen}

-- what a cycle shows
abbrev pub seen_at : List Seen → ℕ → Seen
seen_at seen t = slice_index_or seen t (record { differs = 0; raised = 0 })

-- WHAT A CYCLE SHOWS in each lane, of which the faults are given
-- differs: where its bit is 1 some observation net differs
-- raised: where its bit is 0 no alarm net was 1, from the claim's first cycle to this one
pub record IsSeen (c : Circuit) (p : Posed) (faults : ℕ → List Fault) (vectors : List (List Bool)) (t : ℕ) (seen : Seen) : Type 0 where
  pub differs : (k : ℕ) → k < 64 → bit seen.differs k ≡ true → some_differs p.observed.now (trace c [] vectors t) (trace c (faults k) vectors t) ≡ true
  pub raised : (k u : ℕ) → k < 64 → bit seen.raised k ≡ false → p.from ≤ u → u ≤ t → some_raised p.alarms.now (trace c (faults k) vectors u) ≡ false

-- THE RUN WITH THESE VECTORS IS SEEN, and is as is supposed
pub record AreSeen (c : Circuit) (p : Posed) (faults : ℕ → List Fault) (vectors : List (List Bool)) (seen : List Seen) : Type 0 where
  pub each : (t : ℕ) → t < length vectors → IsSeen c p faults vectors t (seen_at seen t)
  pub quiet : (t : ℕ) → t < length vectors → bit (seen_at seen t).raised 0 ≡ false
  pub held : (t : ℕ) → t < length vectors → All (λ h. (value : Bool) → held_at h t ≡ Some value → trace c [] vectors t h.net.0 ≡ value) p.held.now

-- a run of so many cycles was followed
abbrev pub HasFollowed : Circuit → Posed → (ℕ → List Fault) → ℕ → List Seen → Type 0
HasFollowed c p faults cycles seen = (vectors : List (List Bool)) × (length vectors ≡ cycles) × AreSeen c p faults vectors seen

-- WHAT IS SEEN IN THE LAST CYCLE of these lanes, where so many have raised an alarm before it
pub record Looks (c : Circuit) (p : Posed) (faults : ℕ → List Fault) (lanes : Bank ℕ) (t alarmed : ℕ) (now : Seen) : Type 0 where
  pub differs : (vectors : List (List Bool)) (k : ℕ) → AreAfter 64 bit vectors lanes → t + 1 ≡ length vectors → k < 64
      → bit now.differs k ≡ some_differs p.observed.now (trace c [] vectors t) (trace c (faults k) vectors t)
  pub before : (k : ℕ) → bit now.raised k ≡ false → bit alarmed k ≡ false
  pub raised : p.from ≤ t → (vectors : List (List Bool)) (k : ℕ) → AreAfter 64 bit vectors lanes → t + 1 ≡ length vectors → k < 64
      → bit now.raised k ≡ false → some_raised p.alarms.now (trace c (faults k) vectors t) ≡ false

-- each of these inputs has the value in it that it is held at
abbrev pub AreHeldIn : Circuit → List Held → Bank ℕ → ℕ → Type 0
AreHeldIn c held lanes t = (vectors : List (List Bool)) → AreAfter 64 bit vectors lanes → t + 1 ≡ length vectors
    → All (λ h. (value : Bool) → held_at h t ≡ Some value → trace c [] vectors t h.net.0 ≡ value) held

-- THE RUN SO FAR, and the lanes that have raised an alarm in it
pub record IsFollowedTo (c : Circuit) (p : Posed) (faults : ℕ → List Fault) (lanes : Bank ℕ) (shown : List Seen) (cycles alarmed : ℕ) : Type 0 where
  pub vectors : List (List Bool)
  pub count : length vectors ≡ cycles
  pub after : AreAfter 64 bit vectors lanes
  pub seen : AreSeen c p faults vectors shown
  pub raised : (k u : ℕ) → k < 64 → bit alarmed k ≡ false → p.from ≤ u → u < cycles → some_raised p.alarms.now (trace c (faults k) vectors u) ≡ false

-- IN THIS LANE NO ALARM COMES in time
pub record IsUnalarmed (p : Posed) (cycles : ℕ) (seen : List Seen) (k : ℕ) : Type 0 where
  pub t : ℕ
  pub later : p.from ≤ t
  pub lasts : t + p.window + p.ahead < cycles
  pub differs : bit (seen_at seen t).differs k ≡ true
  pub silent : bit (seen_at seen (t + p.window)).raised k ≡ false

-- THE FAULTS OF A BATCH are loaded: none in lane 0, and each of these numbers in one of the lanes behind it
pub record AreLoaded (faults : List Fault) (batch : List ℕ) (loads : ℕ → List Fault) : Type 0 where
  pub golden : loads 0 ≡ []
  pub each : (k : ℕ) → k < length batch → loads (k + 1) ≡ fault_at faults (slice_index batch k) ∷ []

-- each lane of a word is contradicted
abbrev pub LanesContradicted : Circuit → Posed → (ℕ → List Fault) → ℕ → Type 0
LanesContradicted c p faults found = (k : ℕ) → k < 64 → bit found k ≡ true → AreContradicted c p (faults k)
