use Rattle.std.proofs.Common.{codes, refl}
use Rattle.clap.specs.Words.{found_of, rows_of}
use Rattle.command_line.proofs.Said.{found_text}
use Rattle.command_line.proofs.Tasks.{no_window}
use Rattle.command_line.proofs.table.always_of.Goals as goal
use Rattle.command_line.proofs.table.always_of.Goals.{in-Some+in_ok-number_of-in-Some, in-None}

pub returns-in_err-number_of-in-Some : goal.returns-in_err-number_of-in-Some
returns-in_err-number_of-in-Some c =
    let found = found_of c.args.matches.now in
    rw c.from_residual-in_err-number_of-in-Some.ensures
    (no_window (rows_of found) c.in-Some.field-0.now (found_text found (codes "window") _ _ c.in-Some.is c.get_str.ensures) c.in_err-number_of-in-Some.ensures)

pub returns : goal.returns
returns c = (
  refl,
  (
    elim c.match-get_str.branch [
      | in-Some+in_ok-number_of-in-Some w ↦ rw w.window-is w.in_ok-number_of-in-Some.ensures
      | in-None w ↦ rw w.window-is (found_text (found_of c.args.matches.now) (codes "window") _ _ w.in-None.is c.get_str.ensures)
    ],
    c.in_ok-ahead.ensures,
  ),
)
