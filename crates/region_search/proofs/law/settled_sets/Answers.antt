use Rattle.region_search.proofs.Settling.{empty_holds_none, ends_settled, settles}
use Rattle.region_search.proofs.law.settled_sets.Goals as goal

pub returns-clause-settles : goal.returns-clause-settles
returns-clause-settles c = settles

pub returns-clause-empty : goal.returns-clause-empty
returns-clause-empty c = empty_holds_none

pub returns-clause-ends : goal.returns-clause-ends
returns-clause-ends c = ends_settled
