use Rattle.always.proofs.Standing.{alarmed, early, no_path}
use Rattle.always.proofs.law.faults_are_harmless.Goals as goal

pub returns-clause-no_path : goal.returns-clause-no_path
returns-clause-no_path c = no_path c.unreached_is_not_dangerous.ensures

pub returns-clause-alarmed : goal.returns-clause-alarmed
returns-clause-alarmed c = alarmed c.faults_lie_within.ensures.one c.alarms_come.ensures.last c.alarms_come.ensures.later

pub returns-clause-early : goal.returns-clause-early
returns-clause-early c = early c.faults_lie_within.ensures.one c.alarms_come.ensures.danger
