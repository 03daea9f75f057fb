use Rattle.std.proofs.Common.{◌≡◌, ◌≢◌, ◌<◌, ℕ, length}
use Rattle.blif_hierarchy.specs.Searching.{node_mark, ComponentSearches}
use Rattle.blif_hierarchy.specs.declared.scan.Mark.TheVariants.{New}
use Rattle.blif_hierarchy.proofs.components.components.Given as goal

abbrev pub invariant-loop-root : goal.invariant-loop-root
invariant-loop-root l = record {
  search : ComponentSearches l.edges l.search;
  idle : length l.search.nodes.items ≡ 0;
  seen : (x : ℕ) → x < l.root → node_mark l.search.marks.items x ≢ New;
}
