use Rattle.std.proofs.Common.{sym, ap, ◌∙◌}
use Rattle.claim_counter.specs.Seats.{Counter}
use Rattle.campaign_board.proofs.Telling.{closes_board}
use Rattle.campaign_board.proofs.shared.Shared.close.Goals as goal

pub returns-clause-closed : goal.returns-clause-closed
returns-clause-closed g c =
    let todo = ap (λ (n : Counter). n.todo) c.self.view_is in
    closes_board g.N.Origin.start c.args.self.todo c.args.seat.view c.close.result c.into_board.result (rw todo at c.close.ensures) c.into_board.ensures.board (sym todo ∙ c.self.invariant.1)
    c.into_board.ensures.starts c.into_board.ensures.rows
