use Rattle.std.proofs.Common.{◌≡◌}
use Rattle.campaign_board.specs.Boards.{batches_of}
use Rattle.campaign_board.specs.Missing.{missing_below}
use Rattle.campaign_board.proofs.missing.missing_batches.Given as goal

abbrev pub invariant-loop-batch : goal.invariant-loop-batch
invariant-loop-batch l = l.todo ≡ missing_below l.batch (batches_of l.rows)
