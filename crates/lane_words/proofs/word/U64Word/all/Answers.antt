use Rattle.std.proofs.Common.{sym, ◌∙◌}
use Rattle.lane_words.proofs.Words.{bit_of_ones}
use Rattle.lane_words.proofs.word.U64Word.all.Goals as goal

pub returns-then-value : goal.returns-then-value
returns-then-value c = λ k lt. bit_of_ones k lt ∙ sym c.if-value.true
