use Rattle.std.proofs.Common.{◌≡◌, ℕ, List, [], ◌∷◌, Some, length, ap, sym, subst, arith}
use Rattle.std.proofs.lemmas.List.{length-append}
use Rattle.std.specs.List.{slice_get}
use Rattle.circuit.specs.Order.{IsOrder, net_at}
use Rattle.region_search.proofs.PlacedTables.{each_more, own_apart}
use Rattle.region_search.specs.Going.{IsPlacedTable}
use Rattle.region_search.specs.declared.search.TablePlace.{TablePlace}
use Rattle.region_search.proofs.truth.placed_tables.Goals as goal

pub placed_table-requires-clause-apart : goal.placed_table-requires-clause-apart
placed_table-requires-clause-apart c =
    own_apart c.args.netlist.now c.nets-net-items.result.now c.tables.ensures.sound (subst (IsOrder c.args.netlist.now) (sym c.nets-net-items.ensures) c.requires) c.loop-net.net-index c.loop-net-test.true

pub loop-net-preserved : goal.loop-net-preserved
loop-net-preserved c = record {
  count = (
      let size = ap (λ (all : List TablePlace). length all) c.in_ok-push.ensures.items in
      let more = length-append c.loop-net.tables.items (c.in_ok-placed_table.field-0 ∷ []) in
      omega (arith, size, more, c.loop-net.invariant.count));
  each = subst (λ (all : List TablePlace). (p : ℕ) (table : TablePlace) → slice_get all p ≡ Some table → IsPlacedTable c.args.netlist.now (net_at c.nets-net-items.result.now p) table)
      (sym c.in_ok-push.ensures.items)
      (each_more (λ p table. IsPlacedTable c.args.netlist.now (net_at c.nets-net-items.result.now p) table) c.loop-net.tables.items c.in_ok-placed_table.field-0 c.loop-net.invariant.each
      (subst (λ n. IsPlacedTable c.args.netlist.now (net_at c.nets-net-items.result.now n) c.in_ok-placed_table.field-0) (sym c.loop-net.invariant.count) c.in_ok-placed_table.ensures));
}
