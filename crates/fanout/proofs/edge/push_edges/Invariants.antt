use Rattle.std.proofs.Common.{◌≡◌, ◌++◌, take}
use Rattle.fanout.specs.Edges.{edges_at}
use Rattle.fanout.proofs.edge.push_edges.Given as goal

abbrev pub invariant-loop-net : goal.invariant-loop-net
invariant-loop-net l = l.edges.items ≡ l.initial.edges.items ++ edges_at l.place (take l.net-index l.nets)
