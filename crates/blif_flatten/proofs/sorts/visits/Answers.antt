use Rattle.std.proofs.Common.{◌<◌, ◌∷◌, []}
use Rattle.std.specs.Option.{option_to_list}
use Rattle.fm_base.proofs.Lists.{all_left}
use Rattle.blif_flatten.specs.declared.flat.NameId.{NameId}
use Rattle.blif_flatten.proofs.sorts.visits.Goals as goal

pub returns-in-Latch-clause-within : goal.returns-in-Latch-clause-within
returns-in-Latch-clause-within c n below =
    let l = c.in-Latch.latch in
    all_left (λ (id : NameId). id.0 < n) (l.from ∷ l.to ∷ []) (option_to_list l.control) (rw c.in-Latch.is at below)
