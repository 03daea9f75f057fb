use Rattle.std.proofs.Common.{◌≡◌, List, ◌++◌, ◌∷◌, [], ◌+◌, length, map, ap, ap₂, sym, ◌∙◌, arith}
use Rattle.std.proofs.lemmas.List.{length-map}
use Rattle.circuit.specs.declared.parts.Latch.{Latch}
use Rattle.circuit.specs.declared.parts.NetId.{NetId}
use Rattle.circuit.specs.Value.{driver_at}
use Rattle.fanout.specs.Edges.{edges_from}
use Rattle.fanout.specs.Readers.{driver_reads}
use Rattle.circuit.proofs.FewTables.{few_tables}
use Rattle.fanout.proofs.Pushing.{edges_from-append}
use Rattle.fanout.proofs.edge.edges_of.Goals as goal

pub push_tables-requires-clause-few : goal.push_tables-requires-clause-few
push_tables-requires-clause-few c =
    let sound = c.latches-latches.ensures.sound in
    omega (arith, few_tables c.args.netlist.now sound, sound.few, c.requires.count)

pub overflow_cast-order : goal.overflow_cast-order
overflow_cast-order c =
    let sound = c.latches-latches.ensures.sound in
    omega (arith, few_tables c.args.netlist.now sound, sound.few, c.requires.count)

pub push_latches-requires : goal.push_latches-requires
push_latches-requires c =
    let sound = c.latches-latches.ensures.sound in
    omega (arith, few_tables c.args.netlist.now sound, sound.few, sound.few_latches, c.requires.count, ap (λ (ls : List Latch). length ls) c.latches-latches.ensures.value)

pub returns-clause-edges : goal.returns-clause-edges
returns-clause-edges c =
    let order = c.args.order.now in
    let tables = map (λ (net : NetId). driver_reads c.args.netlist.now (driver_at c.args.netlist.now net.0)) order in
    let size : length order ≡ 0 + length tables = omega (arith, length-map order (λ (net : NetId). driver_reads c.args.netlist.now (driver_at c.args.netlist.now net.0))) in
    c.in_ok-push_latches.ensures
    ∙ ap₂ (λ es latches. es ++ edges_from (length order) (map (λ (latch : Latch). latch.from ∷ []) latches)) c.in_ok-push_tables.ensures c.latches-latches.ensures.value
    ∙ ap (λ p. edges_from 0 tables ++ edges_from p (map (λ (latch : Latch). latch.from ∷ []) c.args.netlist.now.latches)) size
    ∙ sym (edges_from-append 0 tables (map (λ (latch : Latch). latch.from ∷ []) c.args.netlist.now.latches))
