use Rattle.alarm_points.proofs.Rings.{next_in}
use Rattle.alarm_points.proofs.window.next_place.Goals as goal

pub returns-then-place-last-clause-next : goal.returns-then-place-last-clause-next
returns-then-place-last-clause-next c = λ n e. next_in c.args.last c.args.place n e c.if-place-last.true
