use Rattle.command_reads.proofs.Distinct.{kept_distinct}
use Rattle.command_reads.proofs.begun.rows_of.Goals as goal

pub returns-in-Ok-clause-distinct : goal.returns-in-Ok-clause-distinct
returns-in-Ok-clause-distinct c = kept_distinct c.args.planned.now.own c.args.planned.now.plan c.in_ok-whole.field-0.now c.in-Ok.kept c.in-Ok.ensures
