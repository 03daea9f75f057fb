use Rattle.std.proofs.Common.{length}
use Rattle.blif_hierarchy.proofs.OpenNodes.{Numbers}
use Rattle.blif_hierarchy.proofs.search.number_nodes.Given as goal

abbrev pub invariant-nodes : goal.invariant-nodes
invariant-nodes l = Numbers l.place l.number l.initial.marks.items l.marks.items l.nodes.items

abbrev pub decreases-nodes : goal.decreases-nodes
decreases-nodes l = length l.nodes.items
