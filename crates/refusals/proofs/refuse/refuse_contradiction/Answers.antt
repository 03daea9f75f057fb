use Rattle.std.proofs.Common.{ap}
use Rattle.refusals.specs.RefusalLines.{refusal_line}
use Rattle.refusals.specs.declared.status.Status.TheVariants as status
use Rattle.refusals.proofs.Statuses.{said_as}
use Rattle.refusals.proofs.refuse.refuse_contradiction.Goals as goal

pub returns-in-Held : goal.returns-in-Held
unfolding refusal_line
returns-in-Held g c = λ file k. said_as _ _ file k (status.Contradiction c.args.cause) _ (ap status.Contradiction c.in-Held.is) c.say.ensures

pub returns-in-Alarms : goal.returns-in-Alarms
unfolding refusal_line
returns-in-Alarms g c = λ file k. said_as _ _ file k (status.Contradiction c.args.cause) _ (ap status.Contradiction c.in-Alarms.is) c.say-in-Alarms.ensures
