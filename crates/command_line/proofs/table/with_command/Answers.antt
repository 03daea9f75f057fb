use Rattle.command_line.proofs.Rows.{has_too}
use Rattle.command_line.proofs.table.with_command.Goals as goal

pub returns-in-Ok : goal.returns-in-Ok
returns-in-Ok c = rw c.in-Ok.is (has_too _ c.in-Ok.command c.subcommand.result c.subcommand.ensures (rw c.in-Ok.is at c.requires))
