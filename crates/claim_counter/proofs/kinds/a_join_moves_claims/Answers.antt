use Rattle.claim_counter.proofs.Made.{join_made}
use Rattle.claim_counter.proofs.kinds.a_join_moves_claims.Goals as goal

pub returns : goal.returns
returns g c todo id other s v w m h at there apart is_open some_share free shows = join_made g.V.Kept.list g.V.Kept.is_failed todo id s v m h at shows other w there apart is_open some_share free
