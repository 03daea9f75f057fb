use Rattle.command_line.proofs.Rows.{argument_added}
use Rattle.command_line.proofs.table.with_arguments.Goals as goal

pub loop-argument-preserved : goal.loop-argument-preserved
loop-argument-preserved c =
    argument_added _ _ _ _ _ _ _ c.loop-argument.invariant c.loop-argument-test.true c.in_ok-command.ensures c.arg_of.ensures.rule c.arg_of.ensures.local
