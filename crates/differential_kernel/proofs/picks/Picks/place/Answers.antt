use Rattle.std.proofs.Common.{arith}
use Rattle.differential_kernel.proofs.picks.Picks.place.Goals as goal

pub returns-clause-below : goal.returns-clause-below
returns-clause-below c = λ place is. omega (arith, c.self.invariant.few, (c.self.invariant.picked_there c.args.lane place is).0)
