use Rattle.always.proofs.Holding.{no_runs}
use Rattle.always.proofs.law.text_is_of_no_runs.Goals as goal

pub returns : goal.returns
returns c = no_runs
