use Rattle.std.proofs.Common.{sym}
use Rattle.blif_model.specs.Grouped.{model_of}
use Rattle.blif_flatten.proofs.Walking.{walk_none, walk_some, walked_none}
use Rattle.blif_flatten.proofs.flatten.walk_main.Goals as goal

pub returns-in-None : goal.returns-in-None
returns-in-None c = walked_none c.args.walked _ (walk_none c.args.models.now (sym (rw c.in-None.is at c.main.ensures)))

pub returns-in-Some : goal.returns-in-Some
returns-in-Some c =
    rw (walk_some c.args.models.now (model_of c.in-Some.main) (sym (rw c.in-Some.is at c.main.ensures))) c.walk_lines.ensures
