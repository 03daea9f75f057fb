use Rattle.blif_hierarchy.proofs.rounds.capped_totals.Goals as goal

pub returns : goal.returns
returns c = rw c.in_ok-graph.ensures at c.capped_totals.ensures
