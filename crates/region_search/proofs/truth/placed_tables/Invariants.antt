use Rattle.std.proofs.Common.{◌≡◌, ℕ, Some, length}
use Rattle.std.specs.List.{slice_get}
use Rattle.region_search.specs.Going.{IsPlaced}
use Rattle.region_search.specs.declared.search.TablePlace.{TablePlace}
use Rattle.region_search.proofs.truth.placed_tables.Given as goal

abbrev pub invariant-loop-net : goal.invariant-loop-net
invariant-loop-net l = record {
  count : length l.tables.items ≡ l.net-index;
  each : (p : ℕ) (table : TablePlace) → slice_get l.tables.items p ≡ Some table → IsPlaced (record { circuit = l.netlist; order = l.net-items }) p table;
}
