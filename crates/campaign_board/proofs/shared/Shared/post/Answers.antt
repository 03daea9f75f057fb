use Rattle.campaign_board.specs.Missing.{numbers_of}
use Rattle.campaign_board.proofs.Telling.{posts_row, stops_row}
use Rattle.campaign_board.proofs.shared.Shared.post.Goals as goal

pub returns-in-Kept-clause-posted : goal.returns-in-Kept-clause-posted
returns-in-Kept-clause-posted g c =
    let o = g.N.Origin.start in
    let kept = c.in-Kept.ensures in
    posts_row _ _ o c.args.seat.now c.take-board.new.seat c.note.new.seat c.give.new.seat c.take-board.result c.number-number.result c.args.entry.now.batch c.in-Kept.sums (numbers_of o c.add.new.self.rows)
    c.add.new.self.failed c.take-board.ensures kept.0 c.number-number.ensures c.note.ensures.1 c.give.ensures.1 kept.1 kept.2 kept.3

pub returns-in-Stopped-clause-posted : goal.returns-in-Stopped-clause-posted
returns-in-Stopped-clause-posted g c =
    stops_row _ _ c.args.seat.now c.take-board.new.seat c.give-in-Stopped.new.seat c.take-board.result c.add.new.self.failed c.take-board.ensures c.give-in-Stopped.ensures.1 c.in-Stopped.ensures.0
