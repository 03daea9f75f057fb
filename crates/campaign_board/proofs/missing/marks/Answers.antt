use Rattle.std.proofs.Common.{arith}
use Rattle.campaign_board.proofs.Marking.{row_within}
use Rattle.campaign_board.proofs.missing.marks.Goals as goal

pub index_mut-requires : goal.index_mut-requires
index_mut-requires c =
    let less = row_within c.args.batches c.args.rows.now c.loop-row.row-index c.requires c.loop-row-test.true in omega (arith, less, c.loop-row.invariant.len)
