use Rattle.first_cycles.proofs.Dangers.{by_first_cycles}
use Rattle.first_cycles.proofs.Deciding.{decide}
use Rattle.first_cycles.proofs.law.first_cycles_decide.Goals as goal

pub returns-clause-decide : goal.returns-clause-decide
returns-clause-decide c = decide

pub returns-clause-danger : goal.returns-clause-danger
returns-clause-danger c = by_first_cycles
