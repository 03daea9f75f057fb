use Rattle.std.proofs.Common.{◌/◌, ◌%◌, ◌==◌, ◌&&◌, Bool, ap₂, sym, ◌∙◌}
use Rattle.circuit.specs.Value.{bit_at}
use Rattle.lane_words.specs.Bits.{either}
use Rattle.lane_words.specs.Gates.{plane}
use Rattle.place_set.specs.Places.{value_in}
use Rattle.differential_kernel.proofs.Normal.{product_of, sum_of}
use Rattle.differential_kernel.proofs.table.gate_difference.Goals as goal

pub returns-then-gate-lt8 : goal.returns-then-gate-lt8
returns-then-gate-lt8 g c = λ k lt.
    let bit = g.W.Word.lane_bit in
    let words = c.args.words.now in
    let gate = c.args.gate.now in
    let row = c.args.row.now in
    c.sum_difference.ensures k lt
    ∙ ap₂ (λ (a b : Bool). either ((gate.op / 2 % 2 == 1) && a) ((gate.op / 4 % 2 == 1) && b)) (c.difference_of-a.ensures k lt) (c.difference_of-b.ensures k lt)
    ∙ sym (sum_of gate.op (value_in row gate.a) (bit_at (plane bit k words) gate.a) (value_in row gate.b) (bit_at (plane bit k words) gate.b) c.if-gate-lt8.true)

pub returns-else-gate-lt8 : goal.returns-else-gate-lt8
returns-else-gate-lt8 g c = λ k lt.
    let bit = g.W.Word.lane_bit in
    let words = c.args.words.now in
    let gate = c.args.gate.now in
    let row = c.args.row.now in
    c.product_difference.ensures k lt
    ∙ ap₂ (λ (a b : Bool). either (either (gate.op / 2 % 2 == 1) c.value_in_words-gb.result && a) (b && either (either (gate.op / 4 % 2 == 1) c.value_in_words-ga.result) a))
    (c.difference_of-a.ensures k lt) (c.difference_of-b.ensures k lt)
    ∙ ap₂ (λ (x y : Bool). either (either (gate.op / 2 % 2 == 1) y && bit_at (plane bit k words) gate.a) (bit_at (plane bit k words) gate.b && either (either (gate.op / 4 % 2 == 1) x) (bit_at (plane bit k words) gate.a)))
    c.value_in_words-ga.ensures c.value_in_words-gb.ensures
    ∙ sym (product_of gate.op (value_in row gate.a) (bit_at (plane bit k words) gate.a) (value_in row gate.b) (bit_at (plane bit k words) gate.b) c.if-gate-lt8.false c.requires.narrow)
