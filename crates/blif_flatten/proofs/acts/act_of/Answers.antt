use Rattle.std.proofs.Common.{rules, ◌≡◌, []}
use Rattle.blif_model.specs.Meant.{meant}
use Rattle.blif_model.specs.Models.{rows_below}
use Rattle.blif_model.specs.Walk.{acts_of}
use Rattle.blif_flatten.specs.Seen.{scope_at}
use Rattle.blif_flatten.proofs.Numbering.{kept_none}
use Rattle.blif_flatten.proofs.acts.act_of.Goals as goal

pub returns-in_ok-actual_nets-in-Instance : goal.returns-in_ok-actual_nets-in-Instance
returns-in_ok-actual_nets-in-Instance c = rw c.in-Instance.is c.in_ok-actual_nets-in-Instance.ensures

pub returns-in_default : goal.returns-in_default
returns-in_default c =
    let none : acts_of (scope_at c.args.place.now) (meant c.args.says) (rows_below c.args.below.now) ≡ [] = search rules in
    rw none (kept_none c.args.names.now.index)
