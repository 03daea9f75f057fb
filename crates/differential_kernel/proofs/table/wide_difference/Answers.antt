use Rattle.std.proofs.Common.{get_or, ap, ◌∙◌}
use Rattle.lane_words.specs.Bits.{either}
use Rattle.lane_words.specs.Forces.{force_value}
use Rattle.place_set.specs.Places.{value_in}
use Rattle.differential_kernel.proofs.table.wide_difference.Goals as goal

pub returns : goal.returns
returns g c = λ k d state inputs lt.
    c.named_difference.ensures k d lt
    ∙ ap (λ own. either (force_value g.W.Word.lane_bit k (get_or c.args.forces.now.by_net.items c.args.net.0 d) own) (value_in c.args.row.now c.args.net.0)) (c.wide_word-own.ensures k state inputs lt)
