use Rattle.std.proofs.lemmas.Result.{err_from_is_err_and}
use Rattle.command_reads.specs.Files.{reads_by}
use Rattle.command_reads.proofs.Behind.{merged_unplanned, merged_refused, merged_made}
use Rattle.command_reads.proofs.merged.judge_merged.Goals as goal

pub returns-in_err-planned-clause-merges : goal.returns-in_err-planned-clause-merges
returns-in_err-planned-clause-merges c =
    let p = err_from_is_err_and c.from_residual.result c.from_residual.ensures.1 in
    rw (p.1, p.2) (merged_unplanned c.args.netlist.now c.args.set (reads_by c.args.reads.now) _ c.in_err-planned.ensures.plans)

pub returns-in-Err-clause-merges : goal.returns-in-Err-clause-merges
returns-in-Err-clause-merges c =
    merged_refused c.args.netlist.now c.args.set (reads_by c.args.reads.now) c.in_ok-planned.planned.plan _ c.in_ok-planned.ensures.plans c.in-Err.ensures

pub returns-in-Ok-clause-merges : goal.returns-in-Ok-clause-merges
returns-in-Ok-clause-merges c =
    merged_made c.args.netlist.now c.args.set (reads_by c.args.reads.now) c.in_ok-planned.planned.plan _ c.in_ok-planned.ensures.plans c.in-Ok.ensures
