use Rattle.campaign_core.specs.Machines.{fresh}
use Rattle.campaign_core.proofs.Runs.{grown_is}
use Rattle.campaign_core.proofs.laws.sums_are_from_scratch.Goals as goal

pub returns : goal.returns
returns c limit sums es = grown_is sums (fresh limit) es
