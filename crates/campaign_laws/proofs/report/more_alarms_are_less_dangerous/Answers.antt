use Rattle.campaign_laws.proofs.Alarming.{more_alarms}
use Rattle.campaign_laws.proofs.Lessening.{alarms_detect}
use Rattle.campaign_laws.proofs.report.more_alarms_are_less_dangerous.Goals as goal

pub returns-clause-faults : goal.returns-clause-faults
returns-clause-faults c = more_alarms

pub returns-clause-classes : goal.returns-clause-classes
returns-clause-classes c = alarms_detect
