use Rattle.lane_words.proofs.Words.{bit_of_set, bit_of_clear}
use Rattle.lane_words.proofs.word.U64Word.put.Goals as goal

pub returns-then-value : goal.returns-then-value
returns-then-value c = λ k lt. bit_of_set c.args.self c.args.lane k c.args.value c.if-value.true c.requires lt

pub returns-else-value : goal.returns-else-value
returns-else-value c = λ k lt. bit_of_clear c.args.self c.args.lane k c.args.value c.if-value.false c.requires lt
