use Rattle.claim_counter.proofs.Made.{take_made}
use Rattle.claim_counter.proofs.kinds.a_taken_turn_is_a_look.Goals as goal

pub returns : goal.returns
returns g c todo id s v m h at is_open free some_share even shows = take_made g.V.Kept.list g.V.Kept.is_failed todo id s v m h at shows is_open free some_share even
