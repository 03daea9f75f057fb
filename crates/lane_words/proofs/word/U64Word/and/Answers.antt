use Rattle.lane_words.proofs.word.U64Word.and.Goals as goal
use Rattle.fm_base.proofs.Bits.{bit_of_and}

pub returns : goal.returns
returns c = λ k lt. bit_of_and c.args.self c.args.other k
