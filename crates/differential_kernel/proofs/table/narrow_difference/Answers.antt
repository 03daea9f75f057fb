use Rattle.std.proofs.Common.{get_or, ap, ap₂, sym, ◌∙◌, arith}
use Rattle.golden_difference.proofs.Exclusive.{either_back}
use Rattle.lane_words.specs.Bits.{either}
use Rattle.lane_words.specs.Forces.{force_value}
use Rattle.lane_words.specs.Gates.{gate_value}
use Rattle.place_set.specs.Places.{value_in}
use Rattle.differential_kernel.specs.Differences.{read_in}
use Rattle.differential_kernel.proofs.table.narrow_difference.Goals as goal

pub returns-then-has : goal.returns-then-has
returns-then-has g c = λ k d lt given.
    let gate = c.args.gate.now in
    let row = c.args.row.now in
    let gives = gate_value gate (read_in g.W.Word.lane_bit k row c.args.words.now) in
    c.forced_difference.ensures k d lt
    ∙ ap (λ forces. either (force_value g.W.Word.lane_bit k (get_or forces gate.to d) (g.W.Word.lane_bit c.xor.result k)) (value_in row gate.to)) c.deref.ensures.value
    ∙ ap (λ own. either (force_value g.W.Word.lane_bit k (get_or c.args.forces.now.by_net.items gate.to d) own) (value_in row gate.to))
    (c.xor.ensures k lt
    ∙ ap₂ either (c.golden_word-golden.ensures k lt) (c.gate_difference-apart.ensures k lt ∙ ap (either gives) given)
    ∙ either_back (value_in row gate.to) gives)

pub returns-else-has : goal.returns-else-has
returns-else-has g c = λ k d lt given.
    let gate = c.args.gate.now in
    let row = c.args.row.now in
    let gives = gate_value gate (read_in g.W.Word.lane_bit k row c.args.words.now) in
    c.gate_difference-apart.ensures k lt
    ∙ ap (either gives) given
    ∙ ap (λ own. either own (value_in row gate.to)) (sym (c.requires.forces.idle gate.to (omega (arith, c.requires.inside.to, c.requires.forces.each)) (sym c.has.ensures ∙ c.if-has.false) k d gives lt))
