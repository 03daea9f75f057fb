use Rattle.std.proofs.Common.{◌≡◌, ◌<◌, List, Bool, [], ◌∷◌, ◌++◌, length, get_or, sym, ◌∙◌, subst, arith}
use Rattle.std.proofs.lemmas.List.{get_or_default}
use Rattle.circuit.specs.declared.parts.Fault.{Fault}
use Rattle.circuit.specs.After.{IsAfter}
use Rattle.cycle_sim.specs.Sim.{IsSimulationFor, Simulation}
use Rattle.row_audit.specs.Alone.{fault_alone}
use Rattle.row_audit.proofs.Stepped.{none_stepped, one_stepped}
use Rattle.row_audit.proofs.Steps.{Advances}
use Rattle.row_audit.proofs.one_circuit.advance_all.Goals as goal

pub loop-k-init : goal.loop-k-init
loop-k-init c = λ golden. none_stepped (Advances c.args.net.now c.args.order.now (fault_alone c.args.faults.now) c.args.inputs.now) golden c.args.sims.now

pub cycle-requires-clause-made : goal.cycle-requires-clause-made
cycle-requires-clause-made c =
    let k = c.loop-k.k in
    let sim : Simulation = c.index-sims-k.result in
    subst (λ (s : Simulation). IsSimulationFor c.args.net.now c.args.order.now s) (sym ((c.loop-k.invariant sim).left k (omega arith))) (c.requires.alike.each k sim c.loop-k-test.true)

pub cycle-requires-clause-few : goal.cycle-requires-clause-few
cycle-requires-clause-few c =
    let k = c.loop-k.k in
    let sim : Simulation = c.index-sims-k.result in
    subst (λ (s : Simulation). s.moment.cycle < 65536) (sym ((c.loop-k.invariant sim).left k (omega arith))) (c.requires.few k sim c.loop-k-test.true)

pub loop-k-preserved : goal.loop-k-preserved
loop-k-preserved c = λ golden.
    let k = c.loop-k.k in
    let sims = c.loop-k.sims in
    let net = c.args.net.now in
    let inputs = c.args.inputs.now in
    let inv = c.loop-k.invariant golden in
    let new : Simulation = c.cycle.new.self in
    let step = Advances net c.args.order.now (fault_alone c.args.faults.now) inputs in
    let inside : k < length sims = omega (arith, c.loop-k-test.true, inv.count) in
    let old : get_or sims k c.index-sims-k.result ≡ get_or sims k golden = get_or_default sims k c.index-sims-k.result golden inside in
    let after : (vectors : List (List Bool)) → IsAfter net (fault_alone c.args.faults.now k) vectors (get_or sims k c.index-sims-k.result).moment → IsAfter net (fault_alone c.args.faults.now k) (vectors ++ inputs ∷ []) new.moment =
    subst (λ (fs : List Fault). (vectors : List (List Bool)) → IsAfter net fs vectors (get_or sims k c.index-sims-k.result).moment → IsAfter net fs (vectors ++ inputs ∷ []) new.moment) c.as_list.ensures c.cycle.ensures.step in
    one_stepped step golden c.args.sims.now sims k new inv inside (subst (λ (s : Simulation). step k s new) old (record { made = c.cycle.ensures.made; after = after }))

pub returns-clause-alike : goal.returns-clause-alike
returns-clause-alike c = record {
  count = c.loop-k.auto.sims ∙ c.requires.alike.count;
  each = λ k sim lt. ((c.loop-k.invariant sim).done k (omega (arith, lt, c.loop-k-test.false, c.loop-k.auto.sims))).made;
}

pub returns-clause-step : goal.returns-clause-step
returns-clause-step c = λ golden vectors k lane at.
    ((c.loop-k.invariant golden).done k (omega (arith, lane, c.loop-k-test.false, c.requires.alike.count))).after vectors at
