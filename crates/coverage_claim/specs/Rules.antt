-- Sets of pairs for each net and frame of a stretch, and the rules that take pairs away from them.
use Rattle.std.specs.Prelude.{◌≡◌, ◌≢◌, ◌⊎◌, ◌==◌, ◌+◌, ◌≤◌, ◌<◌, ℕ, suc, Bool, true, false, not, ◌&&◌, All, Contains, Some, if◌then◌else◌}
use Rattle.std.specs.List.{slice_get}
use Rattle.fm_base.specs.Lists.{same_bit}
use Rattle.circuit.specs.declared.parts.Driver.TheVariants.{Input, Table as FromTable}
use Rattle.circuit.specs.declared.parts.Latch.{Latch}
use Rattle.circuit.specs.declared.parts.NetId.{NetId}
use Rattle.circuit.specs.Sound.{IsNet}
use Rattle.circuit.specs.Value.{driver_at, table_at, table_gives}
use Rattle.alarm_points.specs.PointsFile.{observed}
use Rattle.coverage_claim.specs.Claim.{Claim, lead_in, leaves, unequal, window_of}
use Rattle.coverage_claim.specs.Region.{may_show}
use Rattle.coverage_claim.specs.declared.parts.Held.{Held}
use Rattle.coverage_claim.specs.Stretch.{Pairs, Stretch, Values, held_at}

-- the pairs that each net may have in each frame
abbrev pub Sets : Type 0
Sets = (frame net : ℕ) → Pairs

-- all pairs
abbrev pub everything : Sets
everything frame net golden faulty = true

-- a set without the pairs that fail a test
abbrev pub only : Sets → ℕ → ℕ → Pairs → Sets
only q frame net test i n golden faulty = q i n golden faulty && (if i == frame && n == net then test golden faulty else true)

-- this pair, and every other one
abbrev pub this_pair : Bool → Bool → Pairs
this_pair a b golden faulty = same_bit a golden && same_bit b faulty

abbrev pub other_than : Bool → Bool → Pairs
other_than a b golden faulty = not (this_pair a b golden faulty)

-- the values of two runs lie in the sets
abbrev pub LieIn : Stretch → Sets → (golden faulty : Values) → Type 0
LieIn s q golden faulty = (frame net : ℕ) → frame ≤ s.last → q frame net (golden frame net) (faulty frame net) ≡ true

-- ---- the rules

-- values that the sets and the table of a net allow in one frame
pub record AgreeAt (s : Stretch) (q : Sets) (frame k : ℕ) (net : NetId) (golden faulty : ℕ → Bool) : Type 0 where
  pub own : q frame net.0 (golden net.0) (faulty net.0) ≡ true
  pub reads : All (λ read. q frame read.0 (golden read.0) (faulty read.0) ≡ true) (table_at s.circuit.tables k).ins
  pub golden_is : golden net.0 ≡ table_gives s.circuit golden k
  pub faulty_may : may_show (s.region net.0) (table_gives s.circuit faulty k) (faulty net.0) ≡ true

-- pairs that the sets and a latch allow: of the net that it reads, and of its own net in the next frame
pub record AgreeOver (s : Stretch) (q : Sets) (frame : ℕ) (latch : Latch) (golden faulty next_golden next_faulty : Bool) : Type 0 where
  pub read : q frame latch.from.0 golden faulty ≡ true
  pub own : q (suc frame) latch.to.0 next_golden next_faulty ≡ true
  pub golden_is : next_golden ≡ golden
  pub faulty_may : may_show (s.region latch.to.0) faulty next_faulty ≡ true

-- WHY A PAIR MAY GO from the set of a net in a frame
-- by_table: it isn't in any values that the sets and a table allow. The net may be the table's own, or one that it reads
-- by_latch, by_next: no pair of the net that the latch reads fits it, or none of the latch's own net in the next frame
-- by_input, by_hold, by_silence, by_start: an input isn't so, is held otherwise, a silent net is 1, or the latch doesn't start so
pub data MayGo (s : Stretch) (q : Sets) (frame net : ℕ) (a b : Bool) : Type 0 where
  by_table : (k : ℕ) (own : NetId) → frame ≤ s.last → IsNet s.circuit own → driver_at s.circuit own.0 ≡ FromTable k
      → ((golden faulty : ℕ → Bool) → AgreeAt s q frame k own golden faulty → golden net ≡ a → faulty net ≡ b → ⊥) → MayGo s q frame net a b
  by_latch : (before l : ℕ) (latch : Latch) → frame ≡ suc before → before < s.last → slice_get s.circuit.latches l ≡ Some latch → latch.to.0 ≡ net
      → ((golden faulty : Bool) → AgreeOver s q before latch golden faulty a b → ⊥) → MayGo s q frame net a b
  by_next : (l : ℕ) (latch : Latch) → frame < s.last → slice_get s.circuit.latches l ≡ Some latch → latch.from.0 ≡ net
      → ((golden faulty : Bool) → AgreeOver s q frame latch a b golden faulty → ⊥) → MayGo s q frame net a b
  by_input : (k : ℕ) (own : NetId) → frame ≤ s.last → IsNet s.circuit own → driver_at s.circuit own.0 ≡ Input k → own.0 ≡ net
      → may_show (s.region net) a b ≡ false → MayGo s q frame net a b
  by_hold : (h : Held) (value : Bool) → frame ≤ s.last → Contains s.held h → h.net.0 ≡ net → held_at h (s.first + frame) ≡ Some value → a ≢ value
      → MayGo s q frame net a b
  by_silence : (own : NetId) → frame ≤ s.last → Contains s.silent own → own.0 ≡ net → (a ≡ true) ⊎ ((b ≡ true) × (frame ≤ s.until)) → MayGo s q frame net a b
  by_start : (l : ℕ) (latch : Latch) → frame ≡ 0 → slice_get s.circuit.latches l ≡ Some latch → latch.to.0 ≡ net → s.start latch a b ≡ false
      → MayGo s q frame net a b

-- NONE FIT: by these rules no two runs lie in the sets
-- empty: a set has no pair
-- drop: a pair may go, and none fit without it
-- split: none fit with the pairs of a net that pass a test, and none with the others
pub data NoneFit (s : Stretch) : Sets → Type 0 where
  empty : (q : Sets) (frame net : ℕ) → frame ≤ s.last → ((a b : Bool) → q frame net a b ≡ false) → NoneFit s q
  drop : (q : Sets) (frame net : ℕ) (a b : Bool) → MayGo s q frame net a b → NoneFit s (only q frame net (other_than a b)) → NoneFit s q
  split : (q : Sets) (frame net : ℕ) (test : Pairs) → NoneFit s (only q frame net test)
      → NoneFit s (only q frame net (λ golden faulty. not (test golden faulty))) → NoneFit s q

-- NARROWED SETS: those that any sequence of rules leaves of all pairs; a pair goes too where none fit that have it
pub data AreNarrowed (s : Stretch) : Sets → Type 0 where
  whole : AreNarrowed s everything
  gone : (q : Sets) (frame net : ℕ) (a b : Bool) → MayGo s q frame net a b → AreNarrowed s q → AreNarrowed s (only q frame net (other_than a b))
  refuted : (q : Sets) (frame net : ℕ) (a b : Bool) → NoneFit s (only q frame net (this_pair a b)) → AreNarrowed s q
      → AreNarrowed s (only q frame net (other_than a b))

-- ---- the end of it

-- no pair of a set passes a test
abbrev pub NonePasses : Pairs → Pairs → Type 0
NonePasses set test = (golden faulty : Bool) → set golden faulty ≡ true → test golden faulty ≡ true → ⊥

-- THE CLAIM IS PROVED BY RULES
-- window, lead: some narrowed sets of both stretches
-- same: no observation net has an unequal pair in frame 0
-- again: no pair in frame 0 lets a latch leave its pairs
-- begins: and those at the end of the lead-in are among them
pub record IsProvedByRules (claim : Claim) : Type 0 where
  pub window : Sets
  pub lead : Sets
  pub window_narrowed : AreNarrowed (window_of claim) window
  pub lead_narrowed : AreNarrowed (lead_in claim) lead
  pub same : All (λ net. NonePasses (window 0 net.0) unequal) (observed claim.points)
  pub again : (l : ℕ) (latch : Latch) → slice_get claim.circuit.latches l ≡ Some latch → NonePasses (window 0 latch.from.0) (leaves claim latch)
  pub begins : (l : ℕ) (latch : Latch) → slice_get claim.circuit.latches l ≡ Some latch
      → NonePasses (lead claim.from latch.to.0) (λ golden faulty. not (claim.apart latch golden faulty))
