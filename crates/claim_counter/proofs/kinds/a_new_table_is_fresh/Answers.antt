use Rattle.claim_counter.proofs.Made.{new_made}
use Rattle.claim_counter.proofs.kinds.a_new_table_is_fresh.Goals as goal

pub returns : goal.returns
returns g c todo = new_made g.V.Kept.list g.V.Kept.is_failed todo
