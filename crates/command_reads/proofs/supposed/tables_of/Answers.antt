use Rattle.std.proofs.lemmas.Result.{err_from_is_err_and}
use Rattle.command_reads.specs.Files.{reads_by}
use Rattle.command_reads.proofs.Runless.{runless_points, runless_rates}
use Rattle.command_reads.proofs.supposed.tables_of.Goals as goal

pub returns-in_err-rates-clause-answers : goal.returns-in_err-rates-clause-answers
returns-in_err-rates-clause-answers c =
    let p = err_from_is_err_and c.from_residual.result c.from_residual.ensures.1 in
    rw (p.1, p.2) (runless_rates c.args.net.now (reads_by c.args.reads.now) _ c.in_err-rates.ensures)

pub returns-in_err-points-clause-answers : goal.returns-in_err-points-clause-answers
returns-in_err-points-clause-answers c =
    let p = err_from_is_err_and c.from_residual-in_err-points.result c.from_residual-in_err-points.ensures.1 in
    rw (p.1, p.2) (runless_points c.args.net.now (reads_by c.args.reads.now) c.in_ok-rates.rates c.in_ok-rates.ensures _ c.in_err-points.ensures.answers)
