use Rattle.std.proofs.Common.{◌≡◌, ℕ, Bool, List, subst}
use Rattle.circuit.specs.Order.{net_at}
use Rattle.circuit.specs.Value.{driven, driver_at, table_gives}
use Rattle.place_set.specs.Places.{value_in}
use Rattle.golden_run.specs.Events.{ordered_of}
use Rattle.golden_run.proofs.Settling.{evaluated, values_evaluated}
use Rattle.golden_run.proofs.walk.evaluate.Goals as goal

pub returns-clause-values : goal.returns-clause-values
returns-clause-values c =
    let o = ordered_of c.args.wiring.now in
    values_evaluated o c.requires.wiring.program.sound c.requires.wiring.program.ordered c.args.place c.gate_bit-value.result c.args.values.now c.change.new.values
    c.remove.new.self c.requires.place c.requires.values c.remove.ensures.has
    (subst (λ (row : List ℕ). (state inputs : List Bool) → c.gate_bit-value.result ≡ driven state inputs (table_gives o.circuit (value_in row)) (driver_at o.circuit (net_at o.order c.args.place).0))
    c.deref.ensures.value c.gate_bit-value.ensures)
    c.change.ensures

pub returns-clause-evaluated : goal.returns-clause-evaluated
returns-clause-evaluated c =
    let o = ordered_of c.args.wiring.now in
    evaluated o c.requires.wiring.program.sound c.requires.wiring.program.ordered c.args.place c.gate_bit-value.result c.args.values.now.row.items c.change.new.values.row.items
    c.requires.place
    (subst (λ (row : List ℕ). (state inputs : List Bool) → c.gate_bit-value.result ≡ driven state inputs (table_gives o.circuit (value_in row)) (driver_at o.circuit (net_at o.order c.args.place).0))
    c.deref.ensures.value c.gate_bit-value.ensures)
    c.change.ensures.values
