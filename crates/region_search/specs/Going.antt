-- A search that goes on: what each step of it keeps.
use Rattle.std.specs.Prelude.{◌≡◌, ◌+◌, ◌*◌, ◌<◌, ◌≤◌, ℕ, Bool, true, false, List, length, take, All, Some}
use Rattle.std.specs.List.{slice_get}
use Rattle.circuit.specs.Circuit.{Circuit}
use Rattle.circuit.specs.Order.{IsOrder, net_at}
use Rattle.circuit.specs.Sound.{IsNet, IsNetlist}
use Rattle.circuit.specs.Value.{driver_at, table_at}
use Rattle.circuit.specs.declared.parts.Driver.TheVariants.{Table as FromTable}
use Rattle.circuit.specs.declared.parts.Latch.{Latch}
use Rattle.circuit.specs.declared.parts.NetId.{NetId}
use Rattle.coverage_claim.specs.declared.parts.Site.{Site}
use Rattle.pair_sets.specs.Tables.{IsTruth}
use Rattle.region_search.specs.declared.search.TablePlace.{TablePlace}
use Rattle.coverage_claim.specs.Largest.{most_inputs}
use Rattle.coverage_claim.specs.Region.{Region}
use Rattle.coverage_claim.specs.Rules.{MayGo, Sets}
use Rattle.coverage_claim.specs.Stretch.{Pairs, Stretch}
use Rattle.fanout.specs.Readers.{Ordered}
use Rattle.place_set.specs.Places.{Places, has as waits}
use Rattle.region_search.specs.Search.{IsByRules, IsSearch, places_of}
use Rattle.region_search.specs.Settled.{AreSome, sets_in}
use Rattle.region_search.specs.Work.{pairs_left, work_left}
use Rattle.region_search.specs.declared.frames.FrameSets.{FrameSets}
use Rattle.region_search.specs.declared.refute.Trial.{Trial}
use Rattle.region_search.specs.declared.search.Search.{Search}

-- the sets of all frames
abbrev pub sets_of : FrameSets → Sets
sets_of f = sets_in f.nets f.sets.items

-- some set has no pair
abbrev pub IsSomeEmpty : Stretch → Sets → Type 0
IsSomeEmpty s q = (frame : ℕ) × (net : ℕ) × (frame ≤ s.last) × ((a b : Bool) → q frame net a b ≡ false)

-- IT IS NOTED whether a set has no pair
pub record IsNoted (s : Stretch) (q : Sets) (empty : Bool) : Type 0 where
  pub some : empty ≡ false → AreSome s q
  pub none : empty ≡ true → IsSomeEmpty s q

-- A SEARCH GOES ON from some sets: it is a search, what has gone might go from those sets, and it is noted where a set has become empty
pub record IsGoing (o : Ordered) (s : Stretch) (bounds q left : Sets) (waiting : Places) (empty : Bool) : Type 0 where
  pub circuit : s.circuit ≡ o.circuit
  pub search : IsSearch o s bounds left waiting
  pub by_rules : IsByRules s q left
  pub noted : IsNoted s left empty

-- the arrays are those of a netlist
pub record IsFor (o : Ordered) (search : Search) : Type 0 where
  pub nets : search.sets.nets ≡ length o.circuit.drivers
  pub bound : search.waiting.bound ≡ search.sets.frames * places_of o

-- and so are those in which pairs are tried, with as many frames in both
pub record AreFor (o : Ordered) (trial : Trial) : Type 0 where
  pub pair : IsFor o trial.pair
  pub case : IsFor o trial.case
  pub frames : trial.case.sets.frames ≡ trial.pair.sets.frames

-- the search of these arrays goes on from some sets of a stretch with as many frames
pub record GoesOn (o : Ordered) (s : Stretch) (bounds q : Sets) (search : Search) : Type 0 where
  pub frames : search.sets.frames ≡ s.last + 1
  pub going : IsGoing o s bounds q (sets_of search.sets) search.waiting search.empty

-- each pair that fails a test may go, by some sets
abbrev pub MayAllGo : Stretch → Sets → ℕ → ℕ → (left to : Pairs) → Type 0
MayAllGo s q frame net left to = (a b : Bool) → left a b ≡ true → to a b ≡ false → MayGo s q frame net a b

-- NO MORE IS LEFT TO DO than before, and where no pair has gone no place more waits
pub record IsFurther (old new : Search) : Type 0 where
  pub less : pairs_left new.sets.sets.items ≤ pairs_left old.sets.sets.items
  pub idle : pairs_left new.sets.sets.items ≡ pairs_left old.sets.sets.items → new.waiting ≡ old.waiting

-- A PLACE HAS BEEN LOOKED AT: it doesn't wait, and if it did, less is left to do
pub record IsLookedAt (old new : Search) (place : ℕ) : Type 0 where
  pub quiet : waits new.waiting place ≡ false
  pub less : waits old.waiting place ≡ true → work_left new.sets.sets.items new.waiting < work_left old.sets.sets.items old.waiting

-- ---- all tables and latches

-- the table of a net: the nets that it reads, each once, and its truth table, where it reads few
-- wide: else it reads too many nets to be looked into
pub record IsPlacedTable (c : Circuit) (net : NetId) (table : TablePlace) : Type 0 where
  pub own : table.own ≡ net
  pub nets : All (IsNet c) (take table.count table.reads)
  pub truth : (k : ℕ) → driver_at c table.own.0 ≡ FromTable k → table.count ≤ 6 → IsTruth c k table.own (take table.count table.reads) table.truth
  pub wide : (k : ℕ) → driver_at c table.own.0 ≡ FromTable k → 6 < table.count → most_inputs < length (table_at c.tables k).ins

-- that of a place in the order
abbrev pub IsPlaced : Ordered → ℕ → TablePlace → Type 0
IsPlaced o place table = IsPlacedTable o.circuit (net_at o.order place) table

-- THE TABLES of a netlist, by their places in the order
pub record ArePlaced (o : Ordered) (tables : List TablePlace) : Type 0 where
  pub count : length tables ≡ length o.order
  pub each : (p : ℕ) (table : TablePlace) → slice_get tables p ≡ Some table → IsPlaced o p table

-- what a region does at each net
pub record AreSites (o : Ordered) (region : Region) (sites : List Site) : Type 0 where
  pub each : (net : ℕ) (site : Site) → slice_get sites net ≡ Some site → region net ≡ site

-- A SEARCH MAY BE MADE: of a sound netlist with an order
pub record IsMade (o : Ordered) (tables : List TablePlace) (latches : List Latch) (sites : List Site) : Type 0 where
  pub sound : IsNetlist o.circuit
  pub order : IsOrder o.circuit o.order
  pub placed : ArePlaced o tables
  pub all : latches ≡ o.circuit.latches
  pub count : length sites ≡ length o.circuit.drivers
