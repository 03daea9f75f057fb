use Rattle.differential_kernel.proofs.Picking.{are_none}
use Rattle.differential_kernel.proofs.picks.Picks.none.Goals as goal

pub invariant_of-result : goal.invariant_of-result
invariant_of-result c = are_none

pub returns-clause-sound : goal.returns-clause-sound
returns-clause-sound c = are_none
