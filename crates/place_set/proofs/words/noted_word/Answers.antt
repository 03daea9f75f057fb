use Rattle.std.proofs.Common.{ap₂, ◌∙◌, ◌||◌, bit_and, bit_or}
use Rattle.fm_base.proofs.Bits.{bit_of_and, bit_of_or}
use Rattle.place_set.proofs.words.noted_word.Goals as goal

pub returns : goal.returns
returns c = λ k.
    bit_of_or (bit_or c.args.zeros c.args.ones) (bit_and c.args.some c.args.others) k
    ∙ ap₂ (λ a b. a || b) (bit_of_or c.args.zeros c.args.ones k) (bit_of_and c.args.some c.args.others k)
