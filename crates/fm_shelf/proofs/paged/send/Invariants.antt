use Rattle.std.proofs.Common.{length, ◌-◌}
use Rattle.fm_shelf.proofs.Pages.{GoesOut}
use Rattle.fm_shelf.proofs.paged.send.Given as goal

abbrev pub invariant-rest : goal.invariant-rest
invariant-rest g l =
    GoesOut (g.O.Sink.seen l.initial.out) (g.O.Sink.seen l.out) l.piece l.initial.sent l.sent

abbrev pub decreases-rest : goal.decreases-rest
decreases-rest g l = length l.piece - l.sent
