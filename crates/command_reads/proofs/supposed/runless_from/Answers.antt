use Rattle.std.proofs.Common.{◌∙◌, ap, subst, sym}
use Rattle.circuit.specs.Order.{IsOrder}
use Rattle.command_reads.proofs.Plans.{plan_same}
use Rattle.command_reads.proofs.supposed.runless_from.Goals as goal

pub returns-clause-sound : goal.returns-clause-sound
returns-clause-sound c =
    let same = plan_same _ c.in_ok-plan.plan c.in_ok-plan.ensures in
    record {
      order = subst (λ d. IsOrder d c.args.ordered.order) (ap (λ p. p.circuit) (sym same)) c.requires.order;
      runs = ap (λ p. p.runs) same ∙ c.none.ensures;
    }
