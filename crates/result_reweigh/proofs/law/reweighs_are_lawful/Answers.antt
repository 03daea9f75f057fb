use Rattle.result_reweigh.proofs.Lawful.{lawful}
use Rattle.result_reweigh.proofs.law.reweighs_are_lawful.Goals as goal

pub returns : goal.returns
returns c = lawful
