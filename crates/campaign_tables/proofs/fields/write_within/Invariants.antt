use Rattle.std.proofs.Common.{take, Ok}
use Rattle.fm_shelf.specs.Sink.{Sends}
use Rattle.campaign_tables.proofs.Quoting.{within}
use Rattle.campaign_tables.proofs.fields.write_within.Given as goal

abbrev pub invariant-loop-piece : goal.invariant-loop-piece
invariant-loop-piece g l =
    Sends (g.O.Sink.seen l.initial.out) (g.O.Sink.seen l.out)
    (within (take l.piece-index l.pieces)) (Ok tt)
