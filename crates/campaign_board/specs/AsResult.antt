-- A board's rows and file, as the definition of a result file has them.
use Rattle.std.specs.Prelude.{◌≡◌, ℕ, ◌<◌, List, map, length}
use Rattle.campaign_plan.specs.Analysis.{Analysis}
use Rattle.campaign_plan.specs.Batches.{own_sums}
use Rattle.result_file.specs.declared.Row.{Row}
use Rattle.result_file.specs.ResultText.{result_rows, result_text}
use Rattle.result_file.specs.KeptRows.{entry_of as planes_of}
use Rattle.campaign_board.specs.Boards.{Start, AreEntries, board_entry, file_text}
use Rattle.campaign_board.specs.Kept.{AreRows}

-- each entry has the sums that the plan gives its batch and its planes
abbrev pub HasOwnSums : Analysis → Start → Type 0
HasOwnSums p o = (batch : ℕ) → batch < length o.entries
    → (board_entry o.entries batch).own ≡ own_sums p batch (record { danger = (board_entry o.entries batch).danger; noticed = (board_entry o.entries batch).noticed })

-- the rows of a board are the result rows of their batches and planes, so its text is the result text
pub record AreResult (p : Analysis) (o : Start) (rows : List Row) : Type 0 where
  pub rows_are : rows ≡ result_rows p (map planes_of rows)
  pub text_is : file_text o.header rows ≡ result_text o.header p (map planes_of rows)

-- WHAT A BOARD KEEPS IS A RESULT FILE of the plan whose own sums the origin has
abbrev pub BoardsAreResults : Type 0
BoardsAreResults = (p : Analysis) (o : Start) (rows : List Row) → AreEntries o.entries → HasOwnSums p o → AreRows o rows → AreResult p o rows
