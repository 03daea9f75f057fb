use Rattle.campaign_laws.proofs.Held.{turn_is_free_or_held}
use Rattle.campaign_laws.proofs.crew.a_turn_is_free_or_held.Goals as goal

pub returns : goal.returns
returns g c = turn_is_free_or_held g.V.Kept.list g.V.Kept.is_failed
