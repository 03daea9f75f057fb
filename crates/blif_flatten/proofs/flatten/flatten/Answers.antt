use Rattle.blif_model.specs.Walk.{walk}
use Rattle.blif_flatten.specs.Thinned.{thinned}
use Rattle.blif_flatten.proofs.Numbering.{names_thinned}
use Rattle.blif_flatten.proofs.flatten.flatten.Goals as goal

pub returns-in-None-clause-steps : goal.returns-in-None-clause-steps
unfolding thinned
returns-in-None-clause-steps c =
    let over = rw (c.in-None.is, c.new-3.ensures.items) at c.in_ok-walk_main.ensures in
    (over.0, rw (← names_thinned (walk c.args.models.now)) over.1)

pub returns-in-Some-clause-steps : goal.returns-in-Some-clause-steps
unfolding thinned
returns-in-Some-clause-steps c =
    let on = rw (c.in-Some.is, c.new-3.ensures.items) at c.in_ok-walk_main.ensures in
    on.1
