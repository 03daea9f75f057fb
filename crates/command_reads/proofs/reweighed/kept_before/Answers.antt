use Rattle.std.proofs.lemmas.Result.{err_from_is_err_and}
use Rattle.command_reads.specs.Files.{reads_by}
use Rattle.command_reads.proofs.Renewing.{unkept, unplanned}
use Rattle.command_reads.proofs.reweighed.kept_before.Goals as goal

pub returns-in_err-planned : goal.returns-in_err-planned
returns-in_err-planned c =
    let p = err_from_is_err_and c.from_residual.result c.from_residual.ensures.1 in
    rw (p.1, p.2) (unplanned c.args.netlist.now c.args.set (reads_by c.args.reads.now) _ c.in_err-planned.ensures.plans)

pub returns-in-Ok : goal.returns-in-Ok
returns-in-Ok c = record {
  plan = c.in_ok-planned.planned.plan;
  planned = c.in_ok-planned.ensures.plans;
  kept = c.in-Ok.ensures.answers;
  distinct = c.in-Ok.ensures.distinct;
}

pub returns-in-Err : goal.returns-in-Err
returns-in-Err c =
    unkept c.args.netlist.now c.args.set (reads_by c.args.reads.now) c.in_ok-planned.planned.plan c.in_ok-planned.ensures.plans _ c.in-Err.ensures.answers
