use Rattle.campaign_laws.proofs.Lawful.{lawful}
use Rattle.campaign_laws.proofs.crew.steps_are_lawful_events.Goals as goal

pub returns : goal.returns
returns c = lawful
