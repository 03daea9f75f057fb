use Rattle.campaign_plan.proofs.Alone.{classed_alone, sums_of_faults, true_sums_alone}
use Rattle.campaign_plan.proofs.law.faults_are_alone.Goals as goal

pub returns-clause-classes : goal.returns-clause-classes
returns-clause-classes c = classed_alone

pub returns-clause-sums : goal.returns-clause-sums
returns-clause-sums c = sums_of_faults

pub returns-clause-truly : goal.returns-clause-truly
returns-clause-truly c = true_sums_alone
