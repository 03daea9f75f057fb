use Rattle.std.proofs.lemmas.Result.{err_from_is_err_and}
use Rattle.command_reads.specs.Files.{reads_by}
use Rattle.command_reads.proofs.Runless.{supposed_made, supposed_refused, supposed_unplanned}
use Rattle.command_reads.proofs.supposed.judge_supposed.Goals as goal

pub returns-in_err-plan-clause-supposes : goal.returns-in_err-plan-clause-supposes
returns-in_err-plan-clause-supposes c =
    let p = err_from_is_err_and c.from_residual.result c.from_residual.ensures.1 in
    rw (p.1, p.2) (supposed_unplanned c.args.netlist.now c.args.set (reads_by c.args.reads.now) _ c.in_err-plan.ensures.plans)

pub returns-in-Err-clause-supposes : goal.returns-in-Err-clause-supposes
returns-in-Err-clause-supposes c =
    supposed_refused c.args.netlist.now c.args.set (reads_by c.args.reads.now) c.in_ok-plan.field-0.plan _ c.in_ok-plan.ensures.plans
    (rw c.net.ensures.value at c.in-Err.ensures.answers)

pub returns-in-Ok-clause-supposes : goal.returns-in-Ok-clause-supposes
returns-in-Ok-clause-supposes c =
    supposed_made c.args.netlist.now c.args.set (reads_by c.args.reads.now) c.in_ok-plan.field-0.plan _ c.in_ok-plan.ensures.plans
    (rw c.net.ensures.value at c.in-Ok.ensures.answers)
