use Rattle.std.proofs.Common.{◌≡◌, ◌-◌, ◌∷◌, length, reverse}
use Rattle.blif_hierarchy.specs.Searching.{SearchesAt}
use Rattle.blif_hierarchy.proofs.search.Search.look_ahead.Given as goal

abbrev pub invariant-edges : goal.invariant-edges
invariant-edges l = record {
  node : l.frame.node ≡ l.initial.frame.node;
  search : SearchesAt l.edges l.self (l.frame ∷ reverse l.self.path.items);
}

abbrev pub decreases-edges : goal.decreases-edges
decreases-edges l = length l.targets - l.frame.next
