-- What the steps of a campaign leave to the next one.
use Rattle.std.specs.Prelude.{◌≡◌, ◌⊎◌, ℕ, ◌<◌, Bool, true, false, List, length, Contains}
use Rattle.fm_shelf.specs.Past.{StopsOn}
use Rattle.fm_shelf.specs.Shelf.{ShelfState}
use Rattle.fm_shelf.specs.Sink.{SinkState, Wrote, WrotePrefix}
use Rattle.fm_base.specs.Names.{Bytes}
use Rattle.result_file.specs.declared.Row.{Row}
use Rattle.campaign_board.specs.Boards.{Start, batches_of, file_text}
use Rattle.campaign_board.specs.Kept.{BoardState, IsHeaderTorn}
use Rattle.campaign_workers.specs.Finish.{IsFinished}
use Rattle.campaign_run.specs.declared.run.End.{End}
use Rattle.campaign_run.specs.declared.run.End.TheVariants.{Done, NoMemory, ResultFault, OutFault}

-- a board on this shelf to which nothing was done
pub record IsNewBoard {F : Type 0} (o : Start) (shelf : F) (board : BoardState F) : Type 0 where
  pub rows : board.rows ≡ o.rows
  pub failed : board.failed ≡ false
  pub written : board.written ≡ false
  pub shelf_is : board.shelf ≡ shelf

-- the header couldn't be written, or the cut before it failed
abbrev pub HeaderStops : Start → (after : ShelfState) → Type 0
HeaderStops o after = StopsOn o.whole (file_text o.header o.rows) (o.shelf.given o.name) (o.shelf.changed o.name) (after.changed o.name)

-- the board of a campaign whose workers have ended; or its header couldn't be written, and it has failed
abbrev pub HasWorked : {F : Type 0} → Start → (whole : ℕ) → (before after : ShelfState) → BoardState F → Type 0
HasWorked o whole before after board =
    ((board.written ≡ true) × IsFinished o board.rows board.failed)
    ⊎ ((board.failed ≡ true) × IsHeaderTorn o.header whole (before.content o.name) (after.content o.name) × HeaderStops o after)

-- each batch has a row
abbrev pub HaveAll : Start → List Row → Type 0
HaveAll o rows = (batch : ℕ) → batch < length o.entries → Contains (batches_of rows) batch

-- what went out, by the end of a campaign: nothing where the board has failed, and else the text, or a prefix of it
abbrev pub TellsEnd : End → (failed : Bool) → (text : Bytes) → (before after : SinkState) → Type 0
TellsEnd Done failed text before after = (failed ≡ false) × Wrote before after text
TellsEnd (NoMemory no_room) failed text before after = ⊥
TellsEnd ResultFault failed text before after = (failed ≡ true) × (after ≡ before)
TellsEnd OutFault failed text before after = (failed ≡ false) × WrotePrefix before after text
