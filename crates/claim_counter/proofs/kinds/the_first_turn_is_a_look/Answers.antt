use Rattle.claim_counter.proofs.Made.{open_made}
use Rattle.claim_counter.proofs.kinds.the_first_turn_is_a_look.Goals as goal

pub returns : goal.returns
returns g c todo id s m h at shows = open_made g.V.Kept.list g.V.Kept.is_failed todo id s m h at shows
