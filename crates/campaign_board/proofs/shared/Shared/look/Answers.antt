use Rattle.campaign_board.proofs.Telling.{looks_at}
use Rattle.campaign_board.proofs.shared.Shared.look.Goals as goal

pub returns-clause-look : goal.returns-clause-look
returns-clause-look g c =
    looks_at _ _ g.N.Origin.start c.args.seat.now c.take-board.new.seat c.give.new.seat c.take-board.result c.look-look.result c.take-board.ensures c.give.ensures.1 c.look-look.ensures.stopped
    c.look-look.ensures.sums c.look-look.ensures.count
