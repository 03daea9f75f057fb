use Rattle.std.proofs.Common.{◌≡◌, ◌<◌, ◌∙◌, length, get_or, subst, arith}
use Rattle.std.proofs.lemmas.List.{get_or_default}
use Rattle.cycle_sim.specs.Sim.{Simulation}
use Rattle.row_audit.proofs.Stepped.{none_stepped, one_stepped}
use Rattle.row_audit.proofs.Steps.{Begins}
use Rattle.row_audit.proofs.one_circuit.start_all.Goals as goal

pub loop-k-init : goal.loop-k-init
loop-k-init c = λ golden. none_stepped Begins golden c.args.sims.now

pub loop-k-preserved : goal.loop-k-preserved
loop-k-preserved c = λ golden.
    let i = c.loop-k.k in
    let sims = c.loop-k.sims in
    let inv = c.loop-k.invariant golden in
    let new = c.start.new.self in
    let inside : i < length sims = omega (arith, c.loop-k-test.true, inv.count) in
    let old : get_or sims i c.index-sims-k.result ≡ get_or sims i golden = get_or_default sims i c.index-sims-k.result golden inside in
    one_stepped Begins golden c.args.sims.now sims i new inv inside
    (subst (λ (s : Simulation). Begins i s new) old (record { circuit = c.start.ensures.circuit; order = c.start.ensures.order; after = c.start.ensures.start }))

pub returns-clause-alike : goal.returns-clause-alike
returns-clause-alike c = λ circuit order alike. record {
  count = c.loop-k.auto.sims ∙ alike.count;
  each = λ k golden lt.
      let inv = c.loop-k.invariant golden in
      let before : k < length c.args.sims.now = omega (arith, lt, inv.count) in
      let step = inv.done k (omega (arith, before, c.loop-k-test.false, inv.count)) in
      let own = alike.each k golden before in
      record { circuit = step.circuit ∙ own.circuit; order = step.order ∙ own.order };
}

pub returns-clause-start : goal.returns-clause-start
returns-clause-start c = λ golden k faults lt.
    let inv = c.loop-k.invariant golden in
    (inv.done k (omega (arith, lt, c.loop-k-test.false, inv.count))).after faults
