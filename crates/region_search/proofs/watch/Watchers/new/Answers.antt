use Rattle.std.proofs.Common.{◌+◌, List, length, ap, ap₂, sym, subst, arith}
use Rattle.circuit.specs.Order.{IsOrder}
use Rattle.circuit.specs.declared.parts.Latch.{Latch}
use Rattle.circuit.specs.declared.parts.NetId.{NetId}
use Rattle.fanout.specs.Readers.{Ordered}
use Rattle.region_search.proofs.OwnPlaces.{few_places}
use Rattle.region_search.specs.Watch.{AreOwnOfLatches, AreOwnOfTables, AreWatchers}
use Rattle.region_search.proofs.watch.Watchers.new.Goals as goal

pub overflow_add-places : goal.overflow_add-places
overflow_add-places c =
    let few = few_places c.args.netlist.now c.latches.ensures.sound c.args.order.now c.requires in
    let nets = ap (λ (order : List NetId). length order) c.nets-nets.ensures in
    let latches = ap (λ (all : List Latch). length all) c.latches.ensures.value in
    omega (arith, few, nets, latches)

pub overflow_cast-places : goal.overflow_cast-places
overflow_cast-places c =
    let few = few_places c.args.netlist.now c.latches.ensures.sound c.args.order.now c.requires in
    let nets = ap (λ (order : List NetId). length order) c.nets-nets.ensures in
    let latches = ap (λ (all : List Latch). length all) c.latches.ensures.value in
    omega (arith, few, nets, latches)

pub own_places-requires : goal.own_places-requires
own_places-requires c = subst (IsOrder c.args.netlist.now) (sym c.nets-nets.ensures) c.requires

pub invariant_of-result : goal.invariant_of-result
invariant_of-result c =
    let o : Ordered = record { circuit = c.args.netlist.now; order = c.args.order.now } in
    let few = few_places c.args.netlist.now c.latches.ensures.sound c.args.order.now c.requires in
    let nets = ap (λ (order : List NetId). length order) c.nets-nets.ensures in
    let latches = ap (λ (all : List Latch). length all) c.latches.ensures.value in
    subst (λ (f : Ordered). AreWatchers f (length c.nets-nets.result.now) (length c.nets-nets.result.now + length c.latches.result.now) c.in_ok-own.own.items) (sym c.in_ok-fanout.ensures)
    (record {
      count = c.in_ok-own.ensures.count;
      few = omega (arith, few, nets, latches);
      all_tables = nets;
      all = ap₂ (λ m n. m + n) nets latches;
      own_tables = subst (λ (order : List NetId). AreOwnOfTables order c.in_ok-own.own.items) c.nets-nets.ensures c.in_ok-own.ensures.tables;
      own_latches = subst (λ n. AreOwnOfLatches n c.args.netlist.now.latches c.in_ok-own.own.items) nets c.in_ok-own.ensures.latches;
    })
