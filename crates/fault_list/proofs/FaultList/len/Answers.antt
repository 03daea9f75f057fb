use Rattle.std.proofs.Common.{◌≤◌, length, ap, ap₂, sym, subst, ◌∙◌}
use Rattle.fault_list.specs.Kept.{count_for, most_faults}
use Rattle.fault_list.proofs.Numbers.{length_faults}
use Rattle.fault_list.proofs.FaultList.len.Goals as goal

pub returns-clause-count : goal.returns-clause-count
returns-clause-count c =
    let f = c.self.inside in
    c.count.ensures ∙ ap₂ (count_for f.nets f.latches) c.as_slice.ensures c.as_slice-2.ensures ∙ sym (length_faults f.nets f.latches f.flips f.pulses)
    ∙ ap length c.self.view_is

pub returns-clause-few : goal.returns-clause-few
returns-clause-few c =
    let f = c.self.inside in
    subst (λ n. n ≤ most_faults) (sym (length_faults f.nets f.latches f.flips f.pulses) ∙ ap length c.self.view_is) c.self.invariant.few
