use Rattle.claim_laws.proofs.Alarming.{alarms}
use Rattle.claim_laws.proofs.Endangering.{at_once, last, later_last, left_open}
use Rattle.claim_laws.proofs.law.alarms_come.Goals as goal

pub returns-clause-alarms : goal.returns-clause-alarms
returns-clause-alarms c = alarms

pub returns-clause-danger : goal.returns-clause-danger
returns-clause-danger c = left_open

pub returns-clause-last : goal.returns-clause-last
returns-clause-last c = last

pub returns-clause-at_once : goal.returns-clause-at_once
returns-clause-at_once c = at_once

pub returns-clause-later : goal.returns-clause-later
returns-clause-later c = later_last
