-- What a search for the largest sets of a stretch keeps from one step to the next, and what it knows at its end.
use Rattle.std.specs.Prelude.{◌≡◌, ◌⊎◌, ◌+◌, ◌*◌, ◌<◌, ◌≤◌, ℕ, suc, Bool, true, false, List, length, All, Some, if◌then◌else◌, nat_lt}
use Rattle.std.specs.List.{slice_get}
use Rattle.circuit.specs.Sound.{IsNet}
use Rattle.circuit.specs.Value.{driver_at, table_at}
use Rattle.circuit.specs.declared.parts.Driver.TheVariants.{Input, Table as FromTable}
use Rattle.circuit.specs.declared.parts.Latch.{Latch}
use Rattle.circuit.specs.declared.parts.NetId.{NetId}
use Rattle.coverage_claim.specs.Largest.{AreSettled, most_inputs}
use Rattle.coverage_claim.specs.Region.{may_show}
use Rattle.coverage_claim.specs.Rules.{AgreeOver, LieIn, Sets}
use Rattle.coverage_claim.specs.Stretch.{AreSo, Stretch, Values, held_at}
use Rattle.pair_sets.specs.Choice.{set_at}
use Rattle.pair_sets.specs.Pairs.{has}
use Rattle.pair_sets.specs.Tables.{AreSetsOf, IsLeftOf, IsSetOf}
use Rattle.pair_sets.specs.declared.pairs.PairSet.{PairSet}

-- the sets of frame after frame, in each those of net after net; a net that isn't there may have any pair
abbrev pub sets_in : ℕ → List PairSet → Sets
sets_in nets items frame net a b = if nat_lt net nets then has (set_at items (frame * nets + net)) a b else true

-- each set has a pair
abbrev pub AreSome : Stretch → Sets → Type 0
AreSome s q = (frame net : ℕ) → frame ≤ s.last → (a : Bool) × (b : Bool) × (q frame net a b ≡ true)

-- THE PAIR PASSES the rules that look at no other set
-- input, held, silent, start: an input is so, is held so, a silent net isn't 1, and a latch starts so
pub record PassesAlone (s : Stretch) (frame net : ℕ) (a b : Bool) : Type 0 where
  pub input : (k : ℕ) (own : NetId) → IsNet s.circuit own → driver_at s.circuit own.0 ≡ Input k → own.0 ≡ net → may_show (s.region net) a b ≡ true
  pub held : All (λ h. h.net.0 ≡ net → (value : Bool) → held_at h (s.first + frame) ≡ Some value → a ≡ value) s.held
  pub silent : All (λ own. own.0 ≡ net → (a ≡ false) × (frame ≤ s.until → b ≡ false)) s.silent
  pub start : (l : ℕ) (latch : Latch) → frame ≡ 0 → slice_get s.circuit.latches l ≡ Some latch → latch.to.0 ≡ net → s.start latch a b ≡ true

-- a table takes nothing away in this frame, by its truth table
pub record TakesNothing (s : Stretch) (q : Sets) (frame k : ℕ) (own : NetId) : Type 0 where
  pub reads : List NetId
  pub truth : ℕ
  pub left : List PairSet
  pub own_left : PairSet
  pub is_left : IsLeftOf s q frame k own reads truth left own_left
  pub same : AreSetsOf q frame reads left
  pub own_same : IsSetOf q frame own own_left

-- or it reads too many nets to be looked into
abbrev pub IsTableSettled : Stretch → Sets → ℕ → ℕ → NetId → Type 0
IsTableSettled s q frame k own = TakesNothing s q frame k own ⊎ (most_inputs < length (table_at s.circuit.tables k).ins)

-- a latch takes nothing away between this frame and the next
-- read: each pair of the net that it reads goes on; next: and each of its own net comes from one
pub record IsLatchSettled (s : Stretch) (q : Sets) (frame : ℕ) (latch : Latch) : Type 0 where
  pub read : (a b : Bool) → q frame latch.from.0 a b ≡ true → (x : Bool) × (y : Bool) × AgreeOver s q frame latch a b x y
  pub next : (x y : Bool) → q (suc frame) latch.to.0 x y ≡ true → (a : Bool) × (b : Bool) × AgreeOver s q frame latch a b x y

-- NOTHING WAITS: each pair passes alone, and each table and latch takes nothing away
pub record NothingWaits (s : Stretch) (q : Sets) : Type 0 where
  pub alone : (frame net : ℕ) (a b : Bool) → frame ≤ s.last → q frame net a b ≡ true → PassesAlone s frame net a b
  pub tables : (frame k : ℕ) (own : NetId) → frame ≤ s.last → IsNet s.circuit own → driver_at s.circuit own.0 ≡ FromTable k → IsTableSettled s q frame k own
  pub latches : (frame l : ℕ) (latch : Latch) → frame < s.last → slice_get s.circuit.latches l ≡ Some latch → IsLatchSettled s q frame latch

-- THE SETS ARE SETTLED THEN, where each has a pair: no rule takes any away
abbrev pub NothingWaitsSettles : Type 0
NothingWaitsSettles = (s : Stretch) (q : Sets) → NothingWaits s q → AreSome s q → AreSettled s q

-- all such runs that lie in the bounds lie in the sets
abbrev pub HoldsAll : Stretch → (bounds q : Sets) → Type 0
HoldsAll s bounds q = (golden faulty : Values) → AreSo s golden faulty → LieIn s bounds golden faulty → LieIn s q golden faulty

-- A SET WITHOUT A PAIR: then no such runs lie in the bounds
abbrev pub EmptyHoldsNone : Type 0
EmptyHoldsNone = (s : Stretch) (bounds q : Sets) → HoldsAll s bounds q → (frame net : ℕ) → frame ≤ s.last → ((a b : Bool) → q frame net a b ≡ false)
    → (golden faulty : Values) → AreSo s golden faulty → ¬ (LieIn s bounds golden faulty)
