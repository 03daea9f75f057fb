use Rattle.claim_counter.proofs.Made.{give_made}
use Rattle.claim_counter.proofs.kinds.a_returned_turn_may_fail.Goals as goal

pub returns : goal.returns
returns g c todo id s v x m h at holds same told shows = give_made g.V.Kept.list g.V.Kept.is_failed todo id s v m h at shows x holds same told
