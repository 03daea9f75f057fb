use Rattle.std.proofs.Common.{◌≡◌, take, sym, ◌∙◌, subst, arith}
use Rattle.circuit.specs.Value.{bit_at}
use Rattle.circuit.proofs.Walks.{Holds}
use Rattle.lane_words.specs.Gates.{gate_at, gate_value, plane}
use Rattle.lane_kernel.proofs.OneGate.{gate_step}
use Rattle.lane_kernel.proofs.gate.run_plain.Goals as goal

pub loop-j-preserved : goal.loop-j-preserved
loop-j-preserved g c = (
  omega (arith, c.loop-j.invariant.0, c.tick.ensures),
  λ k x order lt program quiet first.
      let own = gate_value (gate_at c.args.gates.now c.loop-j.j) (bit_at (plane g.W.Word.lane_bit k c.loop-j.words)) in
      gate_step g.W.Word.lane_bit k x c.loop-j.words order c.args.gates.now c.loop-j.j own c.evaluate.result program (omega arith)
      ((program.gates_are c.loop-j.j (omega arith)).means (c.requires.narrow c.loop-j.j (omega arith) (omega arith)) x.state x.inputs
      (bit_at (plane g.W.Word.lane_bit k c.loop-j.words)))
      (c.evaluate.ensures k lt ∙ sym (quiet c.loop-j.j own (omega arith) (omega arith)))
      (c.loop-j.invariant.1 k x order lt program quiet first),
)

pub returns-clause-values : goal.returns-clause-values
returns-clause-values g c = λ k x order lt program quiet first.
    let e : c.loop-j.j ≡ c.args.to = omega arith in
    subst (λ n. Holds x (plane g.W.Word.lane_bit k c.loop-j.words) (take n order) n) e (c.loop-j.invariant.1 k x order lt program quiet first)
