-- A table by its truth table, and the table rule as a rule of stretches.
use Rattle.std.specs.Prelude.{◌≡◌, ◌≢◌, ◌<◌, ◌≤◌, ℕ, Bool, true, false, List, [], ◌∷◌, length, map, All, Contains}
use Rattle.circuit.specs.Circuit.{Circuit}
use Rattle.circuit.specs.Order.{net_at}
use Rattle.circuit.specs.Sound.{IsNet}
use Rattle.circuit.specs.Value.{driver_at, table_at, table_gives}
use Rattle.circuit.specs.declared.parts.Driver.TheVariants.{Table as FromTable}
use Rattle.circuit.specs.declared.parts.NetId.{NetId}
use Rattle.coverage_claim.specs.Rules.{AgreeAt, MayGo, Sets}
use Rattle.coverage_claim.specs.Stretch.{Stretch}
use Rattle.pair_sets.specs.Choice.{IsLeft, set_at, truth_gives}
use Rattle.pair_sets.specs.Pairs.{has}
use Rattle.pair_sets.specs.declared.pairs.PairSet.{PairSet}

-- each net once
abbrev pub IsOnce : List NetId → Type 0
IsOnce [] = Unit {0}
IsOnce (net ∷ nets) = All (λ other. other.0 ≢ net.0) nets × IsOnce nets

-- THE TRUTH TABLE of a table: what it gives for each values of the nets that it reads, each of which stands once in a list of them
-- apart: its own net is none of them
pub record IsTruth (c : Circuit) (k : ℕ) (own : NetId) (reads : List NetId) (truth : ℕ) : Type 0 where
  pub net : IsNet c own
  pub driver : driver_at c own.0 ≡ FromTable k
  pub once : IsOnce reads
  pub apart : All (λ net. net.0 ≢ own.0) reads
  pub whole : All (Contains reads) (table_at c.tables k).ins
  pub among : All (Contains (table_at c.tables k).ins) reads
  pub gives : (values : ℕ → Bool) → table_gives c values k ≡ truth_gives truth (map (λ net. values net.0) reads)

-- the pairs of a net in a frame
abbrev pub IsSetOf : Sets → ℕ → NetId → PairSet → Type 0
IsSetOf q frame net pairs = (a b : Bool) → has pairs a b ≡ q frame net.0 a b

-- and those of each of some nets
pub record AreSetsOf (q : Sets) (frame : ℕ) (nets : List NetId) (sets : List PairSet) : Type 0 where
  pub count : length sets ≡ length nets
  pub each : (i : ℕ) → i < length nets → IsSetOf q frame (net_at nets i) (set_at sets i)

-- what a table leaves of the sets of a stretch in one frame
pub record IsLeftOf (s : Stretch) (q : Sets) (frame k : ℕ) (own : NetId) (reads : List NetId) (truth : ℕ) (left : List PairSet) (own_left : PairSet) : Type 0 where
  pub sets : List PairSet
  pub own_set : PairSet
  pub within : frame ≤ s.last
  pub is_truth : IsTruth s.circuit k own reads truth
  pub are : AreSetsOf q frame reads sets
  pub own_is : IsSetOf q frame own own_set
  pub is_left : IsLeft truth (s.region own.0) sets own_set left own_left

-- WHAT A TABLE TAKES AWAY MAY GO
-- from_read: from a net that it reads; from_own: from its own net
pub record TakesWhatMayGo (s : Stretch) (q : Sets) (frame : ℕ) (own : NetId) (reads : List NetId) (left : List PairSet) (own_left : PairSet) : Type 0 where
  pub from_read : (i : ℕ) → i < length reads → (a b : Bool) → has (set_at left i) a b ≡ false → MayGo s q frame (net_at reads i).0 a b
  pub from_own : (a b : Bool) → has own_left a b ≡ false → MayGo s q frame own.0 a b

abbrev pub TablesAreSound : Type 0
TablesAreSound = (s : Stretch) (q : Sets) (frame k : ℕ) (own : NetId) (reads : List NetId) (truth : ℕ) (left : List PairSet) (own_left : PairSet)
    → IsLeftOf s q frame k own reads truth left own_left → TakesWhatMayGo s q frame own reads left own_left

-- values that the sets and a table allow, with this pair at a net
pub record HasAgreeing (s : Stretch) (q : Sets) (frame k : ℕ) (own : NetId) (net : ℕ) (a b : Bool) : Type 0 where
  pub golden : ℕ → Bool
  pub faulty : ℕ → Bool
  pub agree : AgreeAt s q frame k own golden faulty
  pub golden_at : golden net ≡ a
  pub faulty_at : faulty net ≡ b

-- AND WHERE IT TAKES NOTHING, NO PAIR MAY GO BY IT: there are values with each pair of each net, where its own net has some pair
abbrev pub TablesAreComplete : Type 0
TablesAreComplete = (s : Stretch) (q : Sets) (frame k : ℕ) (own : NetId) (reads : List NetId) (truth : ℕ) (left : List PairSet) (own_left : PairSet)
    → IsLeftOf s q frame k own reads truth left own_left → AreSetsOf q frame reads left → IsSetOf q frame own own_left
    → (x y : Bool) → q frame own.0 x y ≡ true → (net : ℕ) (a b : Bool) → q frame net a b ≡ true → HasAgreeing s q frame k own net a b
