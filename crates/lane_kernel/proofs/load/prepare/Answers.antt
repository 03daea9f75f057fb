use Rattle.std.proofs.Common.{◌<◌, ◌||◌, length, ap, sym, ◌∙◌, arith}
use Rattle.circuit.specs.Value.{bit_at}
use Rattle.lane_words.specs.Gates.{gate_at}
use Rattle.lane_words.specs.Loads.{some_names}
use Rattle.lane_kernel.proofs.load.prepare.Goals as goal
use Rattle.std.proofs.Math.Bool.{or-false}
use Rattle.std.proofs.lemmas.Bool.{or_parts}

pub returns-clause-marks : goal.returns-clause-marks
returns-clause-marks c = λ n within.
    let size = c.mark_all.auto.marks in
    c.mark_all.ensures n (omega (arith, size, within))
    ∙ ap (λ b. some_names c.args.loads.now n || b) (c.requires.bare n (omega (arith, size, within)))
    ∙ or-false (some_names c.args.loads.now n)

pub returns-clause-quiet : goal.returns-clause-quiet
returns-clause-quiet c = λ from j lt le below.
    let n = (gate_at c.args.gates.now j).to in
    let most = c.fill_next.ensures.next.most from lt in
    let inside : n < length c.args.marks.now = (c.requires.inside j (omega (arith, most, below))).to in
    (or_parts (some_names c.args.loads.now n) (bit_at c.args.marks.now n) (sym (c.mark_all.ensures n inside) ∙ c.fill_next.ensures.quiet from j lt le below)).0
