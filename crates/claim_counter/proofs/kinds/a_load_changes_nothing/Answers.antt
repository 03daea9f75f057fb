use Rattle.claim_counter.proofs.Made.{load_same}
use Rattle.claim_counter.proofs.kinds.a_load_changes_nothing.Goals as goal

pub returns : goal.returns
returns g c i id s v at = load_same i id s v at
