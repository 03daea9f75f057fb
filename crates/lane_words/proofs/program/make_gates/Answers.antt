use Rattle.std.proofs.Common.{◌≡◌, ◌≤◌, ◌++◌, ◌∷◌, [], ◌+◌, ℕ, length, rules, ◌∙◌, ap, arith}
use Rattle.std.proofs.lemmas.List.{length_push}
use Rattle.circuit.specs.Order.{net_at}
use Rattle.lane_words.specs.declared.gate.Gate.{Gate}
use Rattle.lane_words.specs.Gates.{IsGate}
use Rattle.lane_words.proofs.Pushes.{pushed_each}
use Rattle.lane_words.proofs.program.make_gates.Goals as goal

pub loop-net-preserved : goal.loop-net-preserved
loop-net-preserved c =
    let e : c.push.new.v.items ≡ c.loop-net.gates.items ++ c.gate_of.result ∷ [] = search rules in
    rw e (
      length_push c.loop-net.gates.items c.gate_of.result ∙ ap (λ n. n + 1) c.loop-net.invariant.0,
      pushed_each (λ (j : ℕ) (gate : Gate). (gate.to ≡ (net_at c.args.order.now j).0) × IsGate c.args.netlist.now gate) c.loop-net.gates.items c.gate_of.result c.loop-net.net-index
          c.loop-net.invariant.0 c.loop-net.invariant.1 (c.gate_of.ensures.to, c.gate_of.ensures.gate),
    )

pub returns : goal.returns
returns c =
    let all : length c.args.order.now ≤ c.loop-net.net-index = omega arith in
    let some : c.loop-net.net-index ≤ length c.args.order.now = omega arith in
    let size : length c.loop-net.gates.items ≡ c.loop-net.net-index = c.loop-net.invariant.0 in
    record {
      sound = c.tables.ensures.sound;
      ordered = c.requires.order;
      count = omega (arith, size);
      nets = λ j lt. (c.loop-net.invariant.1 j (record { to = 0; a = 0; b = 0; op = 0 }) (omega (arith, size, lt))).0;
      gates_are = λ j lt. (c.loop-net.invariant.1 j (record { to = 0; a = 0; b = 0; op = 0 }) (omega (arith, size, lt))).1;
    }
