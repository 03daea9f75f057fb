use Rattle.std.proofs.Common.{◌≤◌, length, subst, sym, arith}
use Rattle.campaign_board.specs.Kept.{AreRows}
use Rattle.campaign_shard.proofs.over.tell.Goals as goal
use Rattle.campaign_board.proofs.AddedRows.{rows_few}

pub overflow_cast-rows : goal.overflow_cast-rows
overflow_cast-rows g c =
    let few : length c.rows.result.now ≤ 16384 =
    rows_few g.N.Origin.start c.rows.result.now c.rows.ensures.kept.0 (subst (AreRows g.N.Origin.start) (sym c.rows.ensures.rows) c.rows.ensures.kept.1) in
    omega (arith, few)
