use Rattle.fm_base.proofs.Bits.{bit_of_or}
use Rattle.counterexamples.proofs.look.either_lanes.Goals as goal

pub returns : goal.returns
returns c = λ k. bit_of_or c.args.a c.args.b k
