use Rattle.alarm_points.proofs.Planes.{bit_with_quiet}
use Rattle.alarm_points.proofs.window.with_quiet.Goals as goal

pub returns : goal.returns
returns c = λ k lt. bit_with_quiet c.args.settled c.args.differing c.args.raised k c.ranges.raised.fits lt
