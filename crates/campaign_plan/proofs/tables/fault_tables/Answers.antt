use Rattle.std.proofs.Common.{sym, subst, ◌∙◌}
use Rattle.campaign_plan.specs.Making.{analysis}
use Rattle.campaign_plan.specs.Shares.{HavePartNumbers}
use Rattle.campaign_plan.proofs.Refusing.{cause_missing, cause_idle, rates_whole, passed_on}
use Rattle.campaign_plan.proofs.tables.fault_tables.Goals as goal

pub returns-in_err-parts : goal.returns-in_err-parts
returns-in_err-parts c =
    let p = analysis c.args.p.now in
    let from = c.from_residual-in_err-parts.ensures in
    passed_on p c.from_residual-in_err-parts.result c.in_err-parts.field-0.0
    (cause_missing p c.in_err-parts.field-0.0 c.in_ok-faults.ensures.1 c.in_err-parts.ensures) from.0 from.1

pub weigh-requires-clause-numbers : goal.weigh-requires-clause-numbers
weigh-requires-clause-numbers c =
    let p = analysis c.args.p.now in
    let e = c.in_ok-part_numbers.ensures in
    subst (HavePartNumbers p c.in_ok-faults.faults) (sym c.deref.ensures.value)
    (record { listed = c.in_ok-faults.ensures.0; numbered = e.0; within = e.1 })

pub returns-in_err-weights : goal.returns-in_err-weights
returns-in_err-weights c =
    let p = analysis c.args.p.now in
    let from = c.from_residual-in_err-weights.ensures in
    passed_on p c.from_residual-in_err-weights.result c.in_err-weights.field-0.0
    (cause_idle p c.in_err-weights.field-0.0 c.in_ok-faults.ensures.1 c.in_ok-parts.ensures.0 c.in_err-weights.ensures) from.0 from.1

pub returns : goal.returns
returns c =
    let p = analysis c.args.p.now in
    let few = c.in_ok-faults.ensures.1 in (
      rates_whole p few c.in_ok-parts.ensures.0 ∙ c.in_ok-weights.ensures.0,
      record {
        listed = c.in_ok-faults.ensures.0;
        numbered = c.in_ok-part_numbers.ensures.0;
        within = c.in_ok-part_numbers.ensures.1;
        weighed = c.in_ok-weights.ensures.1;
      },
    )
