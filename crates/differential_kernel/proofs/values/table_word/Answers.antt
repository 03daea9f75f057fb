use Rattle.std.proofs.Common.{get_or, ap, sym, ◌∙◌, arith}
use Rattle.lane_words.specs.Forces.{force_value}
use Rattle.circuit.specs.Value.{bit_at, driven, driver_at, table_gives}
use Rattle.lane_words.specs.Gates.{plane}
use Rattle.differential_kernel.proofs.values.table_word.Goals as goal

pub returns-then-table : goal.returns-then-table
returns-then-table g c = λ k d state inputs lt.
    let to = c.args.table.now.gate.to in
    let bit = g.W.Word.lane_bit in
    c.forced_at.ensures k d lt
    ∙ ap (λ forces. force_value bit k (get_or forces to d) (bit c.own_word-own.result k)) c.deref.ensures.value
    ∙ ap (force_value bit k (get_or c.args.forces.now.by_net.items to d)) (c.own_word-own.ensures k state inputs lt)

pub returns-else-table : goal.returns-else-table
returns-else-table g c = λ k d state inputs lt.
    let to = c.args.table.now.gate.to in
    let bit = g.W.Word.lane_bit in
    let circuit = c.args.netlist.now in
    c.own_word-own.ensures k state inputs lt
    ∙ sym (c.requires.forces.idle to (omega (arith, c.requires.gate.inside.to, c.requires.forces.each)) (c.requires.named c.if-table.false) k d
    (driven state inputs (table_gives circuit (bit_at (plane bit k c.args.values.now))) (driver_at circuit to)) lt)
