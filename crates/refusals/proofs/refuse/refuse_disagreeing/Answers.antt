use Rattle.refusals.specs.RefusalLines.{refusal_line}
use Rattle.refusals.proofs.refuse.refuse_disagreeing.Goals as goal

pub returns : goal.returns
unfolding refusal_line
returns g c = λ file k. c.refuse_planes.ensures
