-- What the board behind the turn keeps, and what it tells of a row that is added to it.
use Rattle.std.specs.Prelude.{◌≡◌, ℕ, true, false, [], ◌∷◌, ◌++◌, length}
use mathlib.Core.List.{IsPrefix}
use Rattle.campaign_board.specs.declared.entry.Posted.{Posted}
use Rattle.campaign_board.specs.declared.entry.Posted.TheVariants.{Kept, Stopped}
use Rattle.campaign_board.specs.Boards.{Start, AreEntries, sums_over}
use Rattle.campaign_board.specs.Kept.{AreRows, BoardState}
use Rattle.campaign_board.specs.Missing.{claim_number, numbers_of, batches_with}

-- the header was written, and the rows begin with those at the start
pub record IsHeaded {F : Type 0} (o : Start) (board : BoardState F) (started : ℕ) : Type 0 where
  pub written : board.written ≡ true
  pub starts : IsPrefix o.rows board.rows
  pub many : started ≡ length o.rows
  pub entries : AreEntries o.entries
  pub rows_are : AreRows o board.rows

-- Kept: the number of the batch is the last now, and the sums are those of the rows at the start and of all numbers. Stopped: the board has failed and keeps its rows.
abbrev pub Adds : {F : Type 0} → Start → BoardState F → BoardState F → ℕ → Posted → Type 0
Adds o before now batch (Kept sums) =
    (before.failed ≡ false) × (now.failed ≡ false) × (numbers_of o now.rows ≡ numbers_of o before.rows ++ claim_number o batch ∷ [])
    × (sums ≡ sums_over o.entries (batches_with o (numbers_of o now.rows)))
Adds o before now batch Stopped = (now.failed ≡ true) × (now.rows ≡ before.rows)
