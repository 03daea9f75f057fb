use Rattle.claim_laws.proofs.Summing.{claims, spfm, sums}
use Rattle.claim_laws.proofs.law.metric_is_at_least.Goals as goal

pub returns-clause-sums : goal.returns-clause-sums
returns-clause-sums c = sums c.faults_are_alone.ensures.truly

pub returns-clause-metric : goal.returns-clause-metric
returns-clause-metric c = spfm

pub returns-clause-claims : goal.returns-clause-claims
returns-clause-claims c = claims c.faults_are_alone.ensures.truly
