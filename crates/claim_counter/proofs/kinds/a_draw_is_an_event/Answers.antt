use Rattle.claim_counter.proofs.Made.{draw_made}
use Rattle.claim_counter.proofs.kinds.a_draw_is_an_event.Goals as goal

pub returns : goal.returns
returns g c todo id s v m h at small knows some_share first shows = draw_made g.V.Kept.list g.V.Kept.is_failed todo id s v m h at shows small knows some_share first
