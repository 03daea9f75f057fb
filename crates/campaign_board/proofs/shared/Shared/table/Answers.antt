use Rattle.std.proofs.Common.{arith, ap, length}
use Rattle.campaign_board.proofs.Numbering.{missing_few}
use Rattle.campaign_board.proofs.shared.Shared.table.Goals as goal

pub new-requires : goal.new-requires
new-requires g c = omega (arith, missing_few g.N.Origin.start, ap length c.requires.todo, c.rows-started.ensures.kept.0.few)
