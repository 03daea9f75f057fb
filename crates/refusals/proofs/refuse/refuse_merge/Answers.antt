use Rattle.refusals.specs.RefusalLines.{refusal_line}
use Rattle.refusals.proofs.Statuses.{merge_said}
use Rattle.refusals.proofs.refuse.refuse_merge.Goals as goal

pub returns : goal.returns
unfolding refusal_line
returns g c = λ file k. merge_said _ _ file k c.args.cause (λ n one two is. rw is at c.refuse_planes.ensures)
