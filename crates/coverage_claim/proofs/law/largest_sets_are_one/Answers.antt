use Rattle.coverage_claim.proofs.Lasting.{free, holds, one, simply}
use Rattle.coverage_claim.proofs.law.largest_sets_are_one.Goals as goal

pub returns-clause-holds : goal.returns-clause-holds
returns-clause-holds c = holds

pub returns-clause-one : goal.returns-clause-one
returns-clause-one c = one

pub returns-clause-order : goal.returns-clause-order
returns-clause-order c = free

pub returns-clause-simply : goal.returns-clause-simply
returns-clause-simply c = simply
