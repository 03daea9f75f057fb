use Rattle.std.proofs.Common.{arith, ap, length}
use Rattle.campaign_board.proofs.AddedRows.{rows_few}
use Rattle.campaign_board.proofs.Heading.{numbered_sums}
use Rattle.campaign_board.proofs.headed.Headed.look.Goals as goal

pub overflow_cast-result : goal.overflow_cast-result
overflow_cast-result g c = omega (arith, ap length c.rows.ensures.rows, rows_few g.N.Origin.start c.self.inside.board.rows c.self.invariant.entries c.self.invariant.rows_are)

pub returns-clause-sums : goal.returns-clause-sums
returns-clause-sums g c = rw (← c.self.view_is) (numbered_sums g.N.Origin.start c.self.inside.board c.self.inside.started c.sums.result c.self.invariant c.sums.ensures.sums)
