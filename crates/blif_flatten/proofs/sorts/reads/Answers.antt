use Rattle.std.proofs.Common.{◌<◌, ◌∷◌, []}
use Rattle.fm_base.proofs.Lists.{all_left}
use Rattle.blif_flatten.specs.declared.flat.NameId.{NameId}
use Rattle.blif_flatten.proofs.sorts.reads.Goals as goal

pub returns-in-Table-clause-within : goal.returns-in-Table-clause-within
returns-in-Table-clause-within c n below =
    rw c.listed.ensures (all_left (λ (id : NameId). id.0 < n) c.in-Table.table.ins (c.in-Table.table.out ∷ []) (rw c.in-Table.is at below))
