use Rattle.claim_counter.proofs.Made.{note_made}
use Rattle.claim_counter.proofs.kinds.a_note_is_a_post.Goals as goal

pub returns : goal.returns
returns g c todo id d s v m h at holds fine some_claim not_posted shows = note_made g.V.Kept.list g.V.Kept.is_failed todo id s v m h at shows d holds fine some_claim not_posted
