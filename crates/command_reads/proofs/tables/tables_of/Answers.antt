use Rattle.std.proofs.lemmas.Result.{err_from_is_err_and}
use Rattle.command_reads.specs.Files.{reads_by}
use Rattle.command_reads.proofs.Plans.{tables_runs, tables_rates, tables_points}
use Rattle.command_reads.proofs.tables.tables_of.Goals as goal

pub returns-in_err-work-clause-answers : goal.returns-in_err-work-clause-answers
returns-in_err-work-clause-answers c =
    let p = err_from_is_err_and c.from_residual.result c.from_residual.ensures.1 in
    rw (p.1, p.2) (tables_runs c.args.net.now (reads_by c.args.reads.now) _ c.in_err-work.ensures.answers)

pub returns-in_err-rates-clause-answers : goal.returns-in_err-rates-clause-answers
returns-in_err-rates-clause-answers c =
    let p = err_from_is_err_and c.from_residual-in_err-rates.result c.from_residual-in_err-rates.ensures.1 in
    rw (p.1, p.2) (tables_rates c.args.net.now (reads_by c.args.reads.now) c.in_ok-work.work c.in_ok-work.ensures.answers _ c.in_err-rates.ensures)

pub returns-in_err-points-clause-answers : goal.returns-in_err-points-clause-answers
returns-in_err-points-clause-answers c =
    let p = err_from_is_err_and c.from_residual-in_err-points.result c.from_residual-in_err-points.ensures.1 in
    rw (p.1, p.2) (tables_points c.args.net.now (reads_by c.args.reads.now) c.in_ok-work.work c.in_ok-work.ensures.answers
    c.in_ok-rates.rates c.in_ok-rates.ensures _ c.in_err-points.ensures.answers)
