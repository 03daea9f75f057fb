use Rattle.std.proofs.Common.{◌≡◌, ◌++◌, ◌+◌, map, take, get_or, ap, ap₂, ◌∙◌, arith}
use Rattle.circuit.specs.declared.parts.NetId.{NetId}
use Rattle.circuit.specs.Value.{driver_at}
use Rattle.fanout.specs.Edges.{edges_at, edges_from}
use Rattle.fanout.specs.Readers.{driver_reads}
use Rattle.fanout.proofs.Pushing.{edges_from-more}
use Rattle.fanout.proofs.edge.push_tables.Goals as goal

pub loop-place-preserved : goal.loop-place-preserved
loop-place-preserved c =
    let order = c.args.order.now in
    let i = c.loop-place.place in
    let d : NetId = record { 0 = 0 } in
    let none : i ≡ 0 + i = omega arith in
    c.in_ok-push_edges.ensures
    ∙ ap₂ (λ es ns. es ++ edges_at i ns) c.loop-place.invariant c.reads_of.ensures
    ∙ ap
    (λ p. edges_from 0 (map (λ (net : NetId). driver_reads c.args.netlist.now (driver_at c.args.netlist.now net.0)) (take i order))
    ++ edges_at p (driver_reads c.args.netlist.now (driver_at c.args.netlist.now (get_or order i d).0))) none
    ∙ edges_from-more (λ (net : NetId). driver_reads c.args.netlist.now (driver_at c.args.netlist.now net.0)) 0 order i d c.loop-place-test.true
