use Rattle.stopped_runs.proofs.Resuming.{left_is_taken, left_is_true, none_is_false, plans_are_one, stopped_resumed, stops_leave, undisturbed}
use Rattle.stopped_runs.proofs.law.stopped_are_resumed.Goals as goal

pub returns-clause-left : goal.returns-clause-left
returns-clause-left c = stops_leave

pub returns-clause-resumed : goal.returns-clause-resumed
returns-clause-resumed c = stopped_resumed

pub returns-clause-undisturbed : goal.returns-clause-undisturbed
returns-clause-undisturbed c = undisturbed

pub returns-clause-one : goal.returns-clause-one
returns-clause-one c = plans_are_one

pub returns-clause-none : goal.returns-clause-none
returns-clause-none c = none_is_false

pub returns-clause-truly : goal.returns-clause-truly
returns-clause-truly c = left_is_true

pub returns-clause-taken : goal.returns-clause-taken
returns-clause-taken c = left_is_taken c.stopped_are_taken_up.ensures
