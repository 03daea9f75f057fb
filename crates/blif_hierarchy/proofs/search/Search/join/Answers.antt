use Rattle.blif_hierarchy.proofs.SearchSteps.{join_search, reversed}
use Rattle.blif_hierarchy.proofs.search.Search.join.Goals as goal

pub returns-in_ok-push-clause-search : goal.returns-in_ok-push-clause-search
returns-in_ok-push-clause-search c = λ edges s finished.
    rw (c.in_ok-push.ensures.items, reversed, c.min.ensures) (join_search (rw (c.in-Some.ensures.items, reversed) at s) finished c.requires)
