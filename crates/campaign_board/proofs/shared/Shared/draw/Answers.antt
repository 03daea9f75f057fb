use Rattle.std.proofs.Common.{◌<◌, ◌∙◌, arith, length}
use Rattle.campaign_board.specs.Missing.{batches_missing}
use Rattle.campaign_board.proofs.Telling.{drawn_batch}
use Rattle.campaign_board.proofs.shared.Shared.draw.Goals as goal

pub returns-clause-some : goal.returns-clause-some
returns-clause-some g c =
    let some = c.in_ok-number.ensures.some in
    let less : c.in_ok-number.number < length (batches_missing g.N.Origin.start) = omega (arith, some.0, c.self.invariant.1) in
    drawn_batch g.N.Origin.start c.args.seat.now.view c.draw.new.seat.view c.in_ok-number.number c.as_slice.result.now (c.as_slice.ensures ∙ c.self.invariant.0) less some.1 some.2
