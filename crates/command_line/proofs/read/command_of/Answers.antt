use Rattle.std.proofs.lemmas.Result.{err_from_is_err_and}
use Rattle.clap.specs.Words.{found_of, rows_of}
use Rattle.commands.specs.Commands.{name_by}
use Rattle.command_line.proofs.Said.{no_settings, no_task, not_apart}
use Rattle.command_line.proofs.read.command_of.Goals as goal

pub returns-in_err-settings : goal.returns-in_err-settings
returns-in_err-settings c =
    let p = err_from_is_err_and c.from_residual.result c.from_residual.ensures.1 in
    rw (p.1, p.2) (no_settings c.args.word.now (rows_of (found_of c.args.matches.now)) c.in_err-settings.field-0.0 c.in_err-settings.ensures)

pub returns-in-Err : goal.returns-in-Err
returns-in-Err c = no_task c.args.word.now (rows_of (found_of c.args.matches.now)) c.in-Err.refusal (rw c.in-Err.is at c.task_of.ensures)

pub returns-else-is_apart : goal.returns-else-is_apart
returns-else-is_apart c =
    not_apart c.args.word.now (rows_of (found_of c.args.matches.now)) c.in-Ok.task (name_by c.names_of-names.result) c.in-Ok.ensures c.names_of-names.ensures
    (rw c.kind.ensures at (c.is_apart.ensures.same c.if-is_apart.false))
