use Rattle.std.proofs.Common.{subst, sym, arith}
use Rattle.metric_coverage.specs.Cycles.{IsCycleLight}
use Rattle.metric_coverage.specs.Freed.{evidence_at}
use Rattle.metric_coverage.proofs.Flipping.{cycle_light, flip_added, nothing_added}
use Rattle.metric_coverage.proofs.Weighing.{one_light}
use Rattle.metric_coverage.proofs.cycles.weigh_fault.Goals as goal

pub add_flip-requires-clause-light : goal.add_flip-requires-clause-light
add_flip-requires-clause-light c = λ k lt.
    subst IsCycleLight (sym (c.requires.before k lt))
    (cycle_light c.args.plan.now (evidence_at c.args.evidence.now) c.cycle_of_flip.ensures.plan.rates k c.args.i (omega (arith, c.requires.fault)))

pub add_flip-requires-clause-weight : goal.add_flip-requires-clause-weight
add_flip-requires-clause-weight c =
    omega (arith, c.weight.ensures, one_light c.args.plan.now c.cycle_of_flip.ensures.plan.rates c.args.i c.requires.fault)

pub returns-in-Some : goal.returns-in-Some
returns-in-Some c =
    flip_added c.args.plan.now (evidence_at c.args.evidence.now) c.args.i c.in-Some.cycle c.args.cycles.now c.add_flip.new.cycles c.does_harm-harms.result c.weight.result
    c.in-Some.ensures.cycle c.does_harm-harms.ensures c.weight.ensures c.requires.before c.add_flip.auto.cycles c.add_flip.ensures

pub returns-in-None : goal.returns-in-None
returns-in-None c =
    nothing_added c.args.plan.now (evidence_at c.args.evidence.now) c.args.i c.args.cycles.now c.in-None.ensures.cycle c.requires.before
