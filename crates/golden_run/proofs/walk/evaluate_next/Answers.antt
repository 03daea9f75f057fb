use Rattle.std.proofs.Common.{◌<◌, ◌==◌, ℕ, cond, length, ap, ◌∙◌, arith}
use Rattle.place_set.specs.Places.{value_in}
use Rattle.golden_run.specs.Events.{ordered_of}
use Rattle.golden_run.proofs.Settling.{evaluated}
use Rattle.golden_run.proofs.walk.evaluate_next.Goals as goal

pub returns-clause-evaluated : goal.returns-clause-evaluated
returns-clause-evaluated c =
    let program = c.requires.wiring.program in
    let row = c.args.row.now in
    let value = c.gate_bit-value.result in
    let within : c.args.place < length c.args.wiring.now.gates.now = omega (arith, c.requires.place, program.count) in
    evaluated (ordered_of c.args.wiring.now) program.sound program.ordered c.args.place value row c.put_bit.new.words c.requires.place c.gate_bit-value.ensures
    (λ n. c.put_bit.ensures.bits n ∙ ap (λ (net : ℕ). cond (n == net) value (value_in row n)) (program.nets c.args.place within))
