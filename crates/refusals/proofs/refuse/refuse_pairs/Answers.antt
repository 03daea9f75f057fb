use Rattle.std.proofs.Common.{ap}
use Rattle.refusals.specs.RefusalLines.{refusal_line}
use Rattle.refusals.specs.declared.status.Status.TheVariants as status
use Rattle.refusals.proofs.Statuses.{said_as}
use Rattle.refusals.proofs.refuse.refuse_pairs.Goals as goal

pub returns-in-Incomplete : goal.returns-in-Incomplete
unfolding refusal_line
returns-in-Incomplete g c = λ file k. said_as _ _ file k (status.Pairs c.args.cause) _ (ap status.Pairs c.in-Incomplete.is) c.refuse_incomplete.ensures

pub returns-in-TooMany : goal.returns-in-TooMany
unfolding refusal_line
returns-in-TooMany g c = λ file k. said_as _ _ file k (status.Pairs c.args.cause) _ (ap status.Pairs c.in-TooMany.is) c.say.ensures
