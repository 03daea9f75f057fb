use Rattle.campaign_laws.proofs.Turning.{some_can}
use Rattle.campaign_laws.proofs.crew.some_worker_can_go_on.Goals as goal

pub returns : goal.returns
returns c = some_can
