use Rattle.std.proofs.lemmas.Result.{err_from_is_err_and}
use Rattle.command_reads.specs.Files.{reads_by}
use Rattle.command_reads.proofs.Behind.{begun_unplanned, begun_refused, begun_made}
use Rattle.command_reads.proofs.begun.judge_begun.Goals as goal

pub returns-in_err-planned-clause-begins : goal.returns-in_err-planned-clause-begins
returns-in_err-planned-clause-begins c =
    let p = err_from_is_err_and c.from_residual.result c.from_residual.ensures.1 in
    rw (p.1, p.2) (begun_unplanned c.args.netlist.now c.args.set (reads_by c.args.reads.now) _ c.in_err-planned.ensures.plans)

pub returns-in-Err-clause-begins : goal.returns-in-Err-clause-begins
returns-in-Err-clause-begins c =
    begun_refused c.args.netlist.now c.args.set (reads_by c.args.reads.now) c.in_ok-planned.planned.plan _ c.in_ok-planned.ensures.plans c.in-Err.ensures.answers

pub returns-in-Ok-clause-begins : goal.returns-in-Ok-clause-begins
returns-in-Ok-clause-begins c =
    begun_made c.args.netlist.now c.args.set (reads_by c.args.reads.now) c.in_ok-planned.planned.plan _ c.in_ok-planned.ensures.plans c.in-Ok.ensures.answers
