-- Where the tables and latches of a netlist stand in a frame.
use Rattle.std.specs.Prelude.{◌≡◌, ◌+◌, ◌<◌, ◌≤◌, ◌^◌, ℕ, List, length, Some, slice_index}
use Rattle.std.specs.List.{slice_get}
use Rattle.circuit.specs.Order.{net_at}
use Rattle.circuit.specs.declared.parts.Latch.{Latch}
use Rattle.circuit.specs.declared.parts.NetId.{NetId}
use Rattle.fanout.specs.Readers.{Ordered}
use Rattle.region_search.specs.Search.{places_of}

-- the net of each table has its place in the order
abbrev pub AreOwnOfTables : List NetId → List ℕ → Type 0
AreOwnOfTables order own = (p : ℕ) → p < length order → slice_index own (net_at order p).0 ≡ p

-- and that of each latch its number behind so many places
abbrev pub AreOwnOfLatches : ℕ → List Latch → List ℕ → Type 0
AreOwnOfLatches first latches own = (l : ℕ) (latch : Latch) → slice_get latches l ≡ Some latch → slice_index own latch.to.0 ≡ first + l

-- WHAT WATCHERS KEEP: the numbers of tables and of places in a frame, and the place of each net's own table or latch
-- own_tables, own_latches: the place in a frame; that of an input is anything
pub record AreWatchers (o : Ordered) (tables places : ℕ) (own : List ℕ) : Type 0 where
  pub count : length own ≡ length o.circuit.drivers
  pub few : places ≤ 2 ^ 20
  pub all_tables : tables ≡ length o.order
  pub all : places ≡ places_of o
  pub own_tables : AreOwnOfTables o.order own
  pub own_latches : AreOwnOfLatches (length o.order) o.circuit.latches own
