use Rattle.fmeda_top.proofs.Causing.{have_no_loop, held_read, memory_refused, of_the_command, others_caused, read_fault_rose, usage_of_words}
use Rattle.fmeda_top.proofs.Reweighing.{of_the_run}
use Rattle.fmeda_top.proofs.RowTexts.{pairs_are_true}
use Rattle.fmeda_top.proofs.Writing.{merged_stopped}
use Rattle.fmeda_top.proofs.law.promises_are_of_the_command.Goals as goal

pub returns-clause-command : goal.returns-clause-command
returns-clause-command c = of_the_command

pub returns-clause-usage : goal.returns-clause-usage
returns-clause-usage c = usage_of_words

pub returns-clause-memory : goal.returns-clause-memory
returns-clause-memory c = memory_refused

pub returns-clause-causes : goal.returns-clause-causes
returns-clause-causes c = others_caused

pub returns-clause-read : goal.returns-clause-read
returns-clause-read c = held_read

pub returns-clause-faults : goal.returns-clause-faults
returns-clause-faults c = read_fault_rose

pub returns-clause-loops : goal.returns-clause-loops
returns-clause-loops c = have_no_loop

pub returns-clause-pairs : goal.returns-clause-pairs
returns-clause-pairs c = pairs_are_true c.pairs_are_told.ensures

pub returns-clause-merged : goal.returns-clause-merged
returns-clause-merged c = merged_stopped c.merges_are_lawful.ensures

pub returns-clause-reweighed : goal.returns-clause-reweighed
returns-clause-reweighed c = of_the_run c.reweighs_are_lawful.ensures
