use Rattle.std.proofs.Common.{◌≢◌, ◌<◌, List, length, ap, sym, subst, ◌∙◌, arith}
use Rattle.std.specs.Prelude.{All}
use Rattle.std.specs.List.{slice_get}
use Rattle.golden_difference.proofs.Apart.{order_apart}
use Rattle.circuit.specs.Order.{net_at}
use Rattle.circuit.specs.declared.parts.Latch.{Latch}
use Rattle.region_search.proofs.OwnPlaces.{few_places, latch_nets, latches_apart, tables_apart}
use Rattle.region_search.proofs.watch.note_own.Goals as goal

pub note_tables-requires-clause-few : goal.note_tables-requires-clause-few
note_tables-requires-clause-few c = let few = few_places c.args.netlist.now c.latches-latches.ensures.sound c.args.order.now c.requires.order in omega (arith, few)

pub note_tables-requires-clause-nets : goal.note_tables-requires-clause-nets
note_tables-requires-clause-nets c = λ k d lt. (let net = c.requires.order.nets k d lt in omega (arith, net, c.requires.count))

pub note_tables-requires-clause-apart : goal.note_tables-requires-clause-apart
note_tables-requires-clause-apart c = order_apart c.args.netlist.now c.args.order.now c.latches-latches.ensures.sound c.requires.order

pub overflow_cast-order : goal.overflow_cast-order
overflow_cast-order c = let few = few_places c.args.netlist.now c.latches-latches.ensures.sound c.args.order.now c.requires.order in omega (arith, few)

pub note_latches-requires-clause-few : goal.note_latches-requires-clause-few
note_latches-requires-clause-few c =
    let few = few_places c.args.netlist.now c.latches-latches.ensures.sound c.args.order.now c.requires.order in
    let same = ap (λ (latches : List Latch). length latches) c.latches-latches.ensures.value in
    omega (arith, few, same)

pub note_latches-requires-clause-nets : goal.note_latches-requires-clause-nets
note_latches-requires-clause-nets c = λ l d lt.
    let all = subst (All (λ (latch : Latch). latch.to.0 < length c.args.netlist.now.drivers)) (sym c.latches-latches.ensures.value) (latch_nets c.args.netlist.now c.latches-latches.ensures.sound) in
    omega (arith, all l d lt, c.requires.count, c.note_tables.auto.own)

pub note_latches-requires-clause-apart : goal.note_latches-requires-clause-apart
note_latches-requires-clause-apart c = λ i j latch other at there.
    latches_apart c.args.netlist.now c.latches-latches.ensures.sound i j latch other
    (sym (ap (λ (latches : List Latch). slice_get latches i) c.latches-latches.ensures.value) ∙ at) (sym (ap (λ (latches : List Latch). slice_get latches j) c.latches-latches.ensures.value) ∙ there)

pub returns-clause-tables : goal.returns-clause-tables
returns-clause-tables c = λ p lt.
    c.note_latches.ensures.others (net_at c.args.order.now p).0
    (subst (All (λ (latch : Latch). latch.to.0 ≢ (net_at c.args.order.now p).0)) (sym c.latches-latches.ensures.value)
    (tables_apart c.args.netlist.now c.latches-latches.ensures.sound c.args.order.now c.requires.order p lt))
    ∙ c.note_tables.ensures p lt

pub returns-clause-latches : goal.returns-clause-latches
returns-clause-latches c = λ l latch at.
    c.note_latches.ensures.noted l latch (ap (λ (latches : List Latch). slice_get latches l) c.latches-latches.ensures.value ∙ at)
