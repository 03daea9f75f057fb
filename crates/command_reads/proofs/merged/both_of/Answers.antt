use Rattle.std.proofs.lemmas.Result.{err_from_is_err_and}
use Rattle.command_reads.specs.Files.{reads_by}
use Rattle.command_reads.proofs.Behind.{both_first, both_second, both_answer}
use Rattle.command_reads.proofs.merged.both_of.Goals as goal

pub returns-in_err-first : goal.returns-in_err-first
returns-in_err-first c =
    let p = err_from_is_err_and c.from_residual.result c.from_residual.ensures.1 in
    rw (p.1, p.2) (both_first c.args.planned.now.plan (reads_by c.args.reads.now) _ c.in_err-first.ensures.answers)

pub returns-in_err-second : goal.returns-in_err-second
returns-in_err-second c =
    let p = err_from_is_err_and c.from_residual-in_err-second.result c.from_residual-in_err-second.ensures.1 in
    rw (p.1, p.2) (both_second c.args.planned.now.plan (reads_by c.args.reads.now) c.in_ok-first.first c.in_ok-first.ensures.answers _ c.in_err-second.ensures.answers)

pub returns : goal.returns
returns c =
    both_answer c.args.planned.now.plan (reads_by c.args.reads.now) c.in_ok-first.first c.in_ok-first.ensures.answers
    c.in_ok-second.second c.in_ok-second.ensures.answers _ c.rows_of_both.ensures
