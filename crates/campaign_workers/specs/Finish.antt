-- How a campaign ends.
use Rattle.std.specs.Prelude.{◌≡◌, ℕ, ◌<◌, Bool, false, List, length, All, Contains}
use mathlib.Core.List.{IsPrefix}
use Rattle.result_file.specs.declared.Row.{Row}
use Rattle.campaign_core.specs.Machines.{times}
use Rattle.campaign_board.specs.Boards.{Start, batches_of}
use Rattle.campaign_board.specs.Missing.{IsMissing, added_rows}

-- starts: the rows at the start stand first
-- due: each row after them is of a batch to do
-- each: unless the board has failed, each batch to do has one of these rows
-- whole: unless the board has failed, each batch has a row
pub record IsFinished (o : Start) (rows : List Row) (failed : Bool) : Type 0 where
  pub starts : IsPrefix o.rows rows
  pub due : All (IsMissing o) (batches_of (added_rows o rows))
  pub each : failed ≡ false → (batch : ℕ) → IsMissing o batch → times batch (batches_of (added_rows o rows)) ≡ 1
  pub whole : failed ≡ false → (batch : ℕ) → batch < length o.entries → Contains (batches_of rows) batch
