use Rattle.campaign_core.specs.Machines.{fresh}
use Rattle.campaign_core.proofs.Runs.{good_all, good_fresh}
use Rattle.campaign_core.proofs.laws.history_is_claimed.Goals as goal

pub returns : goal.returns
returns c limit es ok x = (good_all (fresh limit) es (good_fresh limit) ok).history x
