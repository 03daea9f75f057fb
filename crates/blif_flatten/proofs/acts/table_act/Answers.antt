use Rattle.std.proofs.Common.{refl}
use Rattle.blif_flatten.proofs.Numbering.{kept_whole, table_numbered}
use Rattle.blif_flatten.proofs.acts.table_act.Goals as goal

pub returns : goal.returns
returns c = kept_whole _ _ (λ seen. refl) (table_numbered c.args.below c.in_ok-ins.ensures c.in_ok-out.ensures)
