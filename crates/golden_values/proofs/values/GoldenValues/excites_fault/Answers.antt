use Rattle.std.proofs.Common.{ap, subst, sym, ◌∙◌}
use Rattle.circuit.specs.declared.parts.Fault.{Fault}
use Rattle.fault_list.specs.Faults.{fault_at}
use Rattle.readings.specs.Latencies.{is_excited}
use Rattle.golden_values.specs.Golden.{IsFaultIn}
use Rattle.golden_values.proofs.Exciting.{fault_in_circuit}
use Rattle.golden_values.proofs.values.GoldenValues.excites_fault.Goals as goal

pub returns : goal.returns
returns c =
    let p = c.args.plan.now in
    let i = c.args.i in
    let fault = c.fault.ensures ∙ ap (λ fs. fault_at fs i) c.faults.ensures.value in
    let within = fault_in_circuit p.circuit p.settings.flips p.settings.pulses i c.requires.fault in
    let order = c.requires.order in
    c.excites.ensures p order.0 c.requires.golden c.faults.ensures.plan.netlist order.1 (subst (λ (f : Fault). IsFaultIn p.circuit f) (sym fault) within) ∙ ap (is_excited p) fault
