use Rattle.std.proofs.Common.{sym, subst}
use Rattle.refusals.specs.Said.{IsSaid}
use Rattle.refusals.proofs.Saying.{loop_line}
use Rattle.refusals.proofs.walk.refuse_loop.Goals as goal

pub returns : goal.returns
returns g c =
    subst (IsSaid (g.O.Sink.seen c.args.out.now) (g.O.Sink.seen c.say_walk.new.out))
    (sym (loop_line c.args.nets.now c.args.walk.now)) c.say_walk.ensures
