use Rattle.clap.specs.Words.{app_of}
use Rattle.command_line.proofs.Rows.{HasFirst}
use Rattle.command_line.proofs.table.with_arguments.Given as goal

abbrev pub invariant-loop-argument : goal.invariant-loop-argument
invariant-loop-argument l = HasFirst (app_of l.initial.command) l.arguments l.argument-index l.command
