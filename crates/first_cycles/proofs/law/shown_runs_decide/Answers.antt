use Rattle.first_cycles.proofs.Dangers.{danger_shown}
use Rattle.first_cycles.proofs.Notices.{notice_shown}
use Rattle.first_cycles.proofs.Showing.{planes_shown}
use Rattle.first_cycles.proofs.law.shown_runs_decide.Goals as goal

pub returns-clause-danger : goal.returns-clause-danger
returns-clause-danger c = danger_shown

pub returns-clause-notice : goal.returns-clause-notice
returns-clause-notice c = notice_shown

pub returns-clause-planes : goal.returns-clause-planes
returns-clause-planes c = planes_shown
