use Rattle.claim_laws.proofs.Endangering.{no_path}
use Rattle.claim_laws.proofs.law.unreached_is_not_dangerous.Goals as goal

pub returns : goal.returns
returns c = no_path
