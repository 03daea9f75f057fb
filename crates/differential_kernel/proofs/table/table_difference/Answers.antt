use Rattle.std.proofs.Common.{get_or, ap, ◌∙◌}
use Rattle.lane_words.specs.Bits.{either}
use Rattle.lane_words.specs.Forces.{force_value}
use Rattle.place_set.specs.Places.{value_in}
use Rattle.differential_kernel.specs.Differences.{read_in}
use Rattle.differential_kernel.proofs.table.table_difference.Goals as goal

pub returns-then-gate-lt16 : goal.returns-then-gate-lt16
returns-then-gate-lt16 g c = λ k d state inputs lt given.
    let gate = c.args.gate.now in
    let row = c.args.row.now in
    let read = read_in g.W.Word.lane_bit k row c.args.words.now in
    let means = c.requires.gate.means c.if-gate-lt16.true state inputs in
    c.narrow_difference.ensures k d lt (means (value_in row) ∙ given state inputs)
    ∙ ap (λ own. either (force_value g.W.Word.lane_bit k (get_or c.args.forces.now.by_net.items gate.to d) own) (value_in row gate.to)) (means read)
