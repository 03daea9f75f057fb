use Rattle.campaign_laws.proofs.Ending.{all_is_done}
use Rattle.campaign_laws.proofs.crew.all_is_done_at_the_end.Goals as goal

pub returns : goal.returns
returns c = all_is_done
