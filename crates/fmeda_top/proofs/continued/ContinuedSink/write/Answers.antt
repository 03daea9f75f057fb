use Rattle.fmeda_top.proofs.Sending.{sends_on}
use Rattle.fmeda_top.proofs.continued.ContinuedSink.write.Goals as goal

pub invariant_of-self : goal.invariant_of-self
invariant_of-self g c =
    sends_on g.N.Earlier.sent (g.O.Sink.seen c.self.inside.out).written (g.O.Sink.seen c.write.new.self).written c.args.piece.now c.write.result c.self.invariant
    c.write.ensures.ok c.write.ensures.nothing
