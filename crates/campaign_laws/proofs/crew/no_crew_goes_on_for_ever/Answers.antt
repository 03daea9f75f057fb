use Rattle.campaign_laws.proofs.Falling.{few}
use Rattle.campaign_laws.proofs.crew.no_crew_goes_on_for_ever.Goals as goal

pub returns : goal.returns
returns c = few
