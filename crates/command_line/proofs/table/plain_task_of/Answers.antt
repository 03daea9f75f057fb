use Rattle.clap.specs.Words.{found_of, rows_of}
use Rattle.command_line.proofs.Tasks.{no_coverage, no_latencies, no_pairs, no_resume, no_run}
use Rattle.command_line.proofs.table.plain_task_of.Goals as goal

pub returns-in_err-workers_of-in-run : goal.returns-in_err-workers_of-in-run
returns-in_err-workers_of-in-run c =
    rw c.from_residual.ensures
    (no_run (rows_of (found_of c.args.matches.now)) c.in_err-workers_of-in-run.ensures c.args.word.now c.in-run.is)

pub returns-in_err-workers_of-in-resume : goal.returns-in_err-workers_of-in-resume
returns-in_err-workers_of-in-resume c =
    rw c.from_residual-in_err-workers_of-in-resume.ensures
    (no_resume (rows_of (found_of c.args.matches.now)) c.in_err-workers_of-in-resume.ensures c.args.word.now c.in-resume.is)

pub returns-in_err-workers_of-in-pairs : goal.returns-in_err-workers_of-in-pairs
returns-in_err-workers_of-in-pairs c =
    rw c.from_residual-in_err-workers_of-in-pairs.ensures
    (no_pairs (rows_of (found_of c.args.matches.now)) c.in_err-workers_of-in-pairs.ensures c.args.word.now c.in-pairs.is)

pub returns-in_err-workers_of-in-latencies : goal.returns-in_err-workers_of-in-latencies
returns-in_err-workers_of-in-latencies c =
    rw c.from_residual-in_err-workers_of-in-latencies.ensures
    (no_latencies (rows_of (found_of c.args.matches.now)) c.in_err-workers_of-in-latencies.ensures c.args.word.now c.in-latencies.is)

pub returns-in_err-workers_of-in-coverage : goal.returns-in_err-workers_of-in-coverage
returns-in_err-workers_of-in-coverage c =
    rw c.from_residual-in_err-workers_of-in-coverage.ensures
    (no_coverage (rows_of (found_of c.args.matches.now)) c.in_err-workers_of-in-coverage.ensures c.args.word.now c.in-coverage.is)
