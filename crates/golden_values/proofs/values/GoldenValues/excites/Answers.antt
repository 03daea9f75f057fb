use Rattle.std.proofs.Common.{ap, subst, sym, ◌∙◌}
use Rattle.circuit.specs.declared.parts.Fault.{Fault}
use Rattle.readings.specs.Latencies.{is_excited}
use Rattle.golden_values.specs.Golden.{IsFaultIn}
use Rattle.golden_values.proofs.values.GoldenValues.excites.Goals as goal

pub returns-in-Stuck : goal.returns-in-Stuck
returns-in-Stuck c = λ p order has sound ordered within.
    let net = subst (λ (f : Fault). IsFaultIn p.circuit f) c.in-Stuck.is within in
    c.has_other.ensures p.circuit p.runs has net ∙ sym (c.stuck_at_is_excited.ensures p c.in-Stuck.net c.in-Stuck.value) ∙ ap (is_excited p) (sym c.in-Stuck.is)
