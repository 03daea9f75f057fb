use Rattle.std.proofs.Common.{◌++◌, ◌∙◌}
use Rattle.std.specs.Prelude.{codes}
use Rattle.blif_model.specs.Walk.{net_of}
use Rattle.blif_flatten.proofs.place.net_in.Goals as goal

pub returns-in-Some : goal.returns-in-Some
unfolding net_of
returns-in-Some c = rw c.in-Inner.is (rw c.in-Some.is at (c.find.ensures (c.in-Inner.path ++ codes "." ++ c.args.name.now)))

pub returns-in_ok-join-in-None : goal.returns-in_ok-join-in-None
unfolding net_of
returns-in_ok-join-in-None c =
    rw c.in-Inner.is (c.as_slice-in-None.ensures.value ∙ rw c.as_slice.ensures at c.in_ok-join-in-None.ensures
    ∙ rw c.in-None.is at (c.find.ensures (c.in-Inner.path ++ codes "." ++ c.args.name.now)))
