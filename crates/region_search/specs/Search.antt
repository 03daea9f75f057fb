-- A search between two steps: what waits to be looked at, and what is settled.
use Rattle.std.specs.Prelude.{◌≡◌, ◌≢◌, ◌⊎◌, ◌+◌, ◌*◌, ◌<◌, ◌≤◌, ℕ, suc, Bool, true, false, length, Some}
use Rattle.std.specs.List.{slice_get}
use Rattle.circuit.specs.Order.{IsOrder, net_at}
use Rattle.circuit.specs.Value.{driver_at}
use Rattle.circuit.specs.declared.parts.Driver.TheVariants.{Table as FromTable}
use Rattle.circuit.specs.declared.parts.Latch.{Latch}
use Rattle.coverage_claim.specs.Largest.{AreAmong}
use Rattle.coverage_claim.specs.Rules.{MayGo, Sets}
use Rattle.coverage_claim.specs.Stretch.{Stretch}
use Rattle.fanout.specs.Readers.{IsReadAt, Ordered}
use Rattle.place_set.specs.Places.{Places, has as waits}
use Rattle.region_search.specs.Settled.{HoldsAll, IsLatchSettled, IsTableSettled, NothingWaits, PassesAlone}

-- the places of one frame: a table by its place in the order, and a latch by its number behind all tables
abbrev pub places_of : Ordered → ℕ
places_of o = length o.order + length o.circuit.latches

-- the place of a table or latch in a frame
abbrev pub place_in : Ordered → (frame place : ℕ) → ℕ
place_in o frame place = frame * places_of o + place

-- THE SEARCH between two steps
-- holds: the sets hold all runs that lie in what it began with
-- alone: each pair passes the rules that look at one set alone
-- tables, latches: what doesn't wait takes nothing away
pub record IsSearch (o : Ordered) (s : Stretch) (bounds q : Sets) (waiting : Places) : Type 0 where
  pub holds : HoldsAll s bounds q
  pub alone : (frame net : ℕ) (a b : Bool) → frame ≤ s.last → q frame net a b ≡ true → PassesAlone s frame net a b
  pub tables : (frame p k : ℕ) → frame ≤ s.last → p < length o.order → driver_at s.circuit (net_at o.order p).0 ≡ FromTable k → waits waiting (place_in o frame p) ≡ false
      → IsTableSettled s q frame k (net_at o.order p)
  pub latches : (frame l : ℕ) (latch : Latch) → frame < s.last → slice_get s.circuit.latches l ≡ Some latch → waits waiting (place_in o frame (length o.order + l)) ≡ false
      → IsLatchSettled s q frame latch

-- WHERE NO PLACE WAITS nothing does
abbrev pub EndsSettled : Type 0
EndsSettled = (o : Ordered) (s : Stretch) (bounds q : Sets) (waiting : Places) → s.circuit ≡ o.circuit → IsOrder o.circuit o.order → IsSearch o s bounds q waiting
    → ((p : ℕ) → waits waiting p ≡ false) → NothingWaits s q

-- ---- steps

-- A STEP BY THE RULES: no pair is new, and each that has gone might go from the sets as they were
pub record IsByRules (s : Stretch) (q left : Sets) : Type 0 where
  pub among : AreAmong s left q
  pub rightly : (frame net : ℕ) (a b : Bool) → frame ≤ s.last → q frame net a b ≡ true → left frame net a b ≡ false → MayGo s q frame net a b

-- no set has changed but that of a net in a frame
abbrev pub IsElsewhere : (frame net : ℕ) (q left : Sets) → Type 0
IsElsewhere frame net q left = (i n : ℕ) → (i ≢ frame) ⊎ (n ≢ net) → (a b : Bool) → left i n a b ≡ q i n a b

-- WHO LOOKS AGAIN where a net in a frame has lost a pair
-- waiting: what waited goes on waiting
-- readers: the places that read the net, in this frame
-- own: the place of its own table there
-- before: and that of its own latch, in the frame before
pub record Wakes (o : Ordered) (frame net : ℕ) (waiting more : Places) : Type 0 where
  pub bound : more.bound ≡ waiting.bound
  pub stays : (place : ℕ) → waits waiting place ≡ true → waits more place ≡ true
  pub readers : (place : ℕ) → IsReadAt o net place → waits more (place_in o frame place) ≡ true
  pub own : (p : ℕ) → p < length o.order → (net_at o.order p).0 ≡ net → waits more (place_in o frame p) ≡ true
  pub before : (earlier l : ℕ) (latch : Latch) → frame ≡ suc earlier → slice_get o.circuit.latches l ≡ Some latch → latch.to.0 ≡ net
      → waits more (place_in o earlier (length o.order + l)) ≡ true

-- A CUT KEEPS THE SEARCH, where all who look again are woken
abbrev pub CutsKeepSearch : Type 0
CutsKeepSearch = (o : Ordered) (s : Stretch) (bounds q left : Sets) (waiting more : Places) (frame net : ℕ) → s.circuit ≡ o.circuit → IsSearch o s bounds q waiting
    → IsByRules s q left → IsElsewhere frame net q left → Wakes o frame net waiting more → IsSearch o s bounds left more
