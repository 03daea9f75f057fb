use Rattle.std.proofs.Common.{◌≡◌, map, take}
use Rattle.circuit.specs.declared.parts.NetId.{NetId}
use Rattle.circuit.specs.Value.{driver_at}
use Rattle.fanout.specs.Edges.{edges_from}
use Rattle.fanout.specs.Readers.{driver_reads}
use Rattle.fanout.proofs.edge.push_tables.Given as goal

abbrev pub invariant-loop-place : goal.invariant-loop-place
invariant-loop-place l = l.edges.items ≡ edges_from 0 (map (λ (net : NetId). driver_reads l.netlist (driver_at l.netlist net.0)) (take l.place l.order))
