use Rattle.blif_hierarchy.specs.Searching.{NoneNew, ComponentSearches, search_work_left}
use Rattle.blif_hierarchy.proofs.search.Search.finish.Given as goal

abbrev pub invariant-steps : goal.invariant-steps
invariant-steps l = record {
  search : ComponentSearches l.edges l.self;
  none_new : NoneNew l.initial.self l.self;
}

abbrev pub decreases-steps : goal.decreases-steps
decreases-steps l = search_work_left l.self
