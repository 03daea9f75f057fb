use Rattle.claim_counter.proofs.Logs.{history_once}
use Rattle.claim_counter.proofs.kinds.the_history_has_each_once.Goals as goal

pub returns : goal.returns
returns g c todo s h x = history_once g.V.Kept.list todo h.counter h.tail h.history s.homes s.views h.claims_rule h.history_rule x
