use Rattle.campaign_laws.proofs.Alarming.{longer}
use Rattle.campaign_laws.proofs.Lessening.{less_dangerous}
use Rattle.campaign_laws.proofs.report.longer_intervals_are_less_dangerous.Goals as goal

pub returns-clause-faults : goal.returns-clause-faults
returns-clause-faults c = longer

pub returns-clause-classes : goal.returns-clause-classes
returns-clause-classes c = less_dangerous c.faults_are_alone.ensures.truly
