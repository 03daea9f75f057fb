use Rattle.claim_laws.proofs.Lying.{marked_within, one_fault, some_within}
use Rattle.claim_laws.proofs.law.faults_lie_within.Goals as goal

pub returns-clause-one : goal.returns-clause-one
returns-clause-one c = one_fault

pub returns-clause-marked : goal.returns-clause-marked
returns-clause-marked c = marked_within

pub returns-clause-some : goal.returns-clause-some
returns-clause-some c = some_within
