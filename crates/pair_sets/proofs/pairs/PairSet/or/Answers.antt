use Rattle.fm_base.proofs.Bits.{bit_of_or}
use Rattle.pair_sets.specs.Pairs.{place_of}
use Rattle.pair_sets.proofs.pairs.PairSet.or.Goals as goal

pub returns : goal.returns
returns c = λ g f. bit_of_or c.args.self.bits c.args.other.bits (place_of g f)
