use Rattle.claim_counter.proofs.Made.{split_made}
use Rattle.claim_counter.proofs.kinds.a_split_shows_the_same.Goals as goal

pub returns : goal.returns
returns g c todo id s v m h at is_open two no_nones shows = split_made g.V.Kept.list g.V.Kept.is_failed todo id s v m h at shows is_open two no_nones
