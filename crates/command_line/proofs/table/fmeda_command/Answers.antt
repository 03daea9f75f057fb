use Rattle.command_line.specs.TableSteps.{named_app}
use Rattle.command_line.proofs.Rows.{row_added}
use Rattle.command_line.proofs.table.fmeda_command.Goals as goal

pub loop-row-preserved : goal.loop-row-preserved
loop-row-preserved c =
    row_added named_app _ c.loop-row.row-index _ _ _ _ c.loop-row.invariant c.loop-row-test.true c.in_ok-program.ensures c.command_of.ensures.app
