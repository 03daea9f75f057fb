use Rattle.std.proofs.Common.{get_or, take, ◌+◌, refl, ap, sym, ◌∙◌, subst, arith}
use Rattle.circuit.specs.Circuit.{Circuit}
use Rattle.circuit.specs.Value.{bit_at, driven, driver_at, table_gives}
use Rattle.circuit.proofs.Walks.{Holds}
use Rattle.lane_words.specs.declared.force.Force.{Force}
use Rattle.lane_words.specs.Gates.{gate_at, plane}
use Rattle.lane_words.specs.Forces.{force_value}
use Rattle.lane_kernel.proofs.OneGate.{gate_step}
use Rattle.lane_kernel.proofs.walk.run_forced.Goals as goal

pub returns-clause-values : goal.returns-clause-values
returns-clause-values g c = λ k x order lt same program forces first.
    let gate = gate_at c.args.gates.now c.args.at in
    let read = bit_at (plane g.W.Word.lane_bit k c.args.words.now) in
    let own = driven x.state x.inputs (table_gives x.circuit read) (driver_at x.circuit gate.to) in
    let d : Force g.row.W.Denot = record { base = c.evaluate_any-own.result; slope = c.evaluate_any-own.result } in
    let inside = (c.requires.gates c.args.at c.requires.at).inside.to in
    subst (λ words. Holds x (plane g.W.Word.lane_bit k words) (take (c.args.at + 1) order) (c.args.at + 1)) (sym c.store.ensures)
    (gate_step g.W.Word.lane_bit k x c.args.words.now order c.args.gates.now c.args.at own c.forced_at.result program c.requires.at refl
    (c.forced_at.ensures k d lt
    ∙ ap (force_value g.W.Word.lane_bit k (get_or c.args.forces.now gate.to d))
    (c.evaluate_any-own.ensures k x.state x.inputs lt ∙ ap (λ (m : Circuit). driven x.state x.inputs (table_gives m read) (driver_at m gate.to)) (sym same))
    ∙ forces gate.to d own (omega (arith, c.requires.forces, inside)))
    first)
