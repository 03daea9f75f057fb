use Rattle.std.proofs.Common.{◌≡◌, ◌<◌, ◌+◌, ◌-◌, List, length, take, ap, sym, ◌∙◌, subst, arith}
use Rattle.std.proofs.lemmas.List.{take_all}
use Rattle.circuit.specs.declared.parts.NetId.{NetId}
use Rattle.circuit.specs.Circuit.{Circuit}
use Rattle.circuit.specs.Order.{IsOrder, net_at}
use Rattle.fanout.specs.Readers.{Ordered}
use Rattle.golden_difference.proofs.Apart.{order_apart}
use Rattle.golden_difference.proofs.Walked.{Walked, walked_all}
use Rattle.lane_words.specs.declared.gate.Gate.{Gate}
use Rattle.lane_words.specs.Gates.{IsGate, gate_at}
use Rattle.lane_words.specs.declared.force.Force.{Force}
use Rattle.differential_kernel.specs.Differences.{AreMarked, read_in}
use Rattle.differential_kernel.proofs.Notes.{grows_none, taken_other}
use Rattle.differential_kernel.proofs.Walking.{evaluated, given, quiet_run, some_force}
use Rattle.differential_kernel.proofs.walk.walk.Goals as goal

pub evaluate-requires-clause-gate : goal.evaluate-requires-clause-gate
evaluate-requires-clause-gate g c =
    let lt : c.in-Some.place < length c.args.program.now.gates.items = omega (arith, c.in-Some.ensures.1, c.requires.fit.program.gates.count) in
    subst (λ (gates : List Gate). IsGate c.args.cycle.now.netlist.now (gate_at gates c.in-Some.place)) (sym c.as_slice-gates.ensures.value) (c.requires.fit.program.gates.gates_are c.in-Some.place lt)

pub evaluate-requires-clause-to : goal.evaluate-requires-clause-to
evaluate-requires-clause-to g c =
    let lt : c.in-Some.place < length c.args.program.now.gates.items = omega (arith, c.in-Some.ensures.1, c.requires.fit.program.gates.count) in
    ap (λ (gates : List Gate). (gate_at gates c.in-Some.place).to) c.as_slice-gates.ensures.value ∙ c.requires.fit.program.gates.nets c.in-Some.place lt

pub evaluate-requires-clause-nets : goal.evaluate-requires-clause-nets
evaluate-requires-clause-nets g c =
    let nets = c.places.invariant.noted.nets in
    record { words = nets.words; touched = nets.touched; marks = c.remove.ensures.bound ∙ nets.marks }

pub places-preserved : goal.places-preserved
places-preserved g c =
    let lanes = g.W.Word.lanes in
    let bit = g.W.Word.lane_bit in
    let circuit = c.args.cycle.now.netlist.now in
    let order = c.args.cycle.now.order.now in
    let row = c.args.cycle.now.row.now in
    let forces = c.args.forces.now.by_net.items in
    let from = c.places.from in
    let p = c.in-Some.place in
    let found = c.in-Some.ensures in
    let inside : (net_at order p).0 < length forces = omega (arith, c.requires.fit.golden.ordered.nets p (record { 0 = 0 }) found.1, c.requires.fit.forces.each) in
    let marked : AreMarked lanes bit (record { circuit = circuit; order = order }) from c.places.nets.words.items c.places.nets.marks =
    subst (λ (o : Ordered). AreMarked lanes bit o from c.places.nets.words.items c.places.nets.marks) c.requires.fit.golden.fanout c.places.invariant.noted.marked in
    let up : from + (p - from) ≡ p = omega (arith, found.0) in
    record {
      within = omega (arith, found.1);
      noted = record {
        nets = c.evaluate.ensures.noted.nets;
        marked = c.evaluate.ensures.noted.marked (p + 1)
            (λ place n le reads none.
            c.places.invariant.noted.marked place n (omega (arith, le, found.0)) reads
            (sym (taken_other c.places.nets.marks c.remove.new.self p place c.remove.ensures.has (omega (arith, le))) ∙ none));
      };
      ahead = λ k q d lt_k le lt none.
          c.evaluate.ensures.settled.others k (net_at order q).0 (order_apart circuit order c.requires.fit.golden.sound c.requires.fit.golden.ordered q p lt found.1 (omega (arith, le)))
          ∙ c.places.invariant.ahead k q d lt_k (omega (arith, le, found.0)) lt
          (sym (taken_other c.places.nets.marks c.remove.new.self p q c.remove.ensures.has (omega (arith, le))) ∙ grows_none c.remove.new.self c.evaluate.new.nets.marks q c.evaluate.ensures.noted.kept none);
      values = λ k x golden lt pair are first.
          let d : Force g.row.W.Denot = some_force forces (net_at order p).0 inside in
          evaluated lanes bit k lt circuit order c.requires.fit.golden.sound c.requires.fit.golden.ordered row forces c.requires.fit.forces.each x golden pair are d c.places.nets.words.items c.evaluate.new.nets.words.items p found.1
          (λ state inputs. c.evaluate.ensures.settled.value k d state inputs lt (given lanes bit k lt circuit order c.requires.fit.golden.sound c.requires.fit.golden.ordered row forces c.requires.fit.forces.each x golden pair are p found.1)) (λ n other. c.evaluate.ensures.settled.others k n other)
          (subst (λ j. Walked x (read_in bit k row c.places.nets.words.items) (take j order) j) up
          (quiet_run lanes bit k lt circuit order c.requires.fit.golden.sound c.requires.fit.golden.ordered row forces c.requires.fit.forces.each x golden pair are c.places.nets.words.items c.places.nets.marks from (p - from)
          (omega (arith, up, found.1)) marked c.places.invariant.ahead (λ q low less. found.3 q low (omega (arith, up, less)))
          (c.places.invariant.values k x golden lt pair are first)));
      few = omega (arith, c.places.invariant.few, found.0);
      cost = omega (arith, c.tick.ensures, c.places.invariant.cost, found.0);
    }

pub returns-clause-values : goal.returns-clause-values
returns-clause-values g c = λ k x golden lt pair are first n net.
    let lanes = g.W.Word.lanes in
    let bit = g.W.Word.lane_bit in
    let circuit = c.args.cycle.now.netlist.now in
    let order = c.args.cycle.now.order.now in
    let row = c.args.cycle.now.row.now in
    let forces = c.args.forces.now.by_net.items in
    let from = c.places.from in
    let marked : AreMarked lanes bit (record { circuit = circuit; order = order }) from c.places.nets.words.items c.places.nets.marks =
    subst (λ (o : Ordered). AreMarked lanes bit o from c.places.nets.words.items c.places.nets.marks) c.requires.fit.golden.fanout c.places.invariant.noted.marked in
    let up : from + (length order - from) ≡ length order = omega (arith, c.places.invariant.within) in
    let run = quiet_run lanes bit k lt circuit order c.requires.fit.golden.sound c.requires.fit.golden.ordered row forces c.requires.fit.forces.each x golden pair are c.places.nets.words.items c.places.nets.marks from (length order - from)
    (omega (arith, up)) marked c.places.invariant.ahead (λ q low less. c.in_default.ensures q low (omega (arith, up, less)))
    (c.places.invariant.values k x golden lt pair are first) in
    walked_all x (read_in bit k row c.places.nets.words.items) order (subst (λ (m : Circuit). IsOrder m order) (sym pair.circuit) c.requires.fit.golden.ordered)
    (subst (λ (nets : List NetId). Walked x (read_in bit k row c.places.nets.words.items) nets (length order)) (take_all (length order) order (omega arith))
    (subst (λ j. Walked x (read_in bit k row c.places.nets.words.items) (take j order) j) up run)) n
    (subst (λ (m : Circuit). n < length m.drivers) (sym pair.circuit) net)

pub returns-clause-noted : goal.returns-clause-noted
returns-clause-noted g c = record {
  nets = c.places.invariant.noted.nets;
  marked = λ place n le reads none. c.places.invariant.noted.marked place n (omega (arith, le, c.places.invariant.within)) reads none;
}
