use Rattle.lane_words.proofs.Words.{bit_of_xor}
use Rattle.lane_words.proofs.word.U64Word.xor.Goals as goal

pub returns : goal.returns
returns c = λ k lt. bit_of_xor c.args.self c.args.other k
