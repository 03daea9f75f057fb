-- What each board keeps.
use Rattle.std.specs.Prelude.{◌≡◌, ◌≢◌, ℕ, ◌+◌, ◌*◌, ◌<◌, ◌≤◌, Bool, true, false, List, [], ◌∷◌, ◌++◌, length, take, All, ◌⊎◌}
use Rattle.metric_sums.specs.declared.Sums.{Sums}
use Rattle.result_file.specs.declared.Row.{Row}
use Rattle.result_file.specs.ResultText.{row_text}
use Rattle.fm_shelf.specs.Content.{Content, IsIfKnown, HasIfKnown, bytes_of}
use Rattle.fm_shelf.specs.Past.{Change, WritesOn, StopsOn}
use Rattle.fm_shelf.specs.Shelf.{ShelfState, CountRose, KeepsOthers}
use Rattle.fm_base.specs.Once.{Lacks, IsOnce}
use Rattle.campaign_board.specs.Boards.{Start, AreEntries, batches_of, sums_over, row_due, next_row, row_at_place, file_text}

-- rows of distinct batches that the board takes, each with its entry's planes and the sums of the entries up to it
pub record AreRows (o : Start) (rows : List Row) : Type 0 where
  pub due : (k : ℕ) → k < length rows → row_at_place rows k ≡ row_due o.entries (batches_of rows) k
  pub once : IsOnce (batches_of rows)
  pub within : All (λ batch. batch < length o.entries) (batches_of rows)
  pub own : All (λ batch. o.takes batch ≡ true) (batches_of rows)

-- header and rows, and a prefix of the row of one more batch that the board takes
pub record IsTorn (o : Start) (rows : List Row) (bytes : List ℕ) : Type 0 where
  pub batch : ℕ
  pub within : batch < length o.entries
  pub lacks : Lacks (batches_of rows) batch
  pub own : o.takes batch ≡ true
  pub taken : ℕ
  pub is : bytes ≡ file_text o.header rows ++ take taken (row_text (next_row o.entries rows batch))

-- the file was written on up to an append that failed, of the row of one more batch that the board takes
pub record StopsAtRow (o : Start) (rows : List Row) (now : List Change) : Type 0 where
  pub batch : ℕ
  pub within : batch < length o.entries
  pub lacks : Lacks (batches_of rows) batch
  pub own : o.takes batch ≡ true
  pub stops : StopsOn o.whole (file_text o.header (rows ++ next_row o.entries rows batch ∷ [])) (o.shelf.given o.name) (o.shelf.changed o.name) now

-- kept: no more bytes are kept than the header and the rows have
-- unwritten, wrote, stopped: what the calls told of the file, known or not: it is as it was; or it was cut to the kept bytes, and has taken the
-- rest of the header and the rows; or so up to an append that failed
pub record IsBoard (o : Start) (rows : List Row) (sums : Sums) (failed written : Bool) (now : ShelfState) : Type 0 where
  pub entries : AreEntries o.entries
  pub rows_are : AreRows o rows
  pub added : sums ≡ sums_over o.entries (batches_of rows)
  pub file : written ≡ true → failed ≡ false → HasIfKnown (now.content o.name) (file_text o.header rows)
  pub torn : written ≡ true → failed ≡ true → IsIfKnown (now.content o.name) (IsTorn o rows)
  pub kept : written ≡ true → o.whole ≤ length (file_text o.header rows)
  pub unwritten : written ≡ false → failed ≡ false → now.changed o.name ≡ o.shelf.changed o.name
  pub wrote : written ≡ true → failed ≡ false → WritesOn o.whole (file_text o.header rows) (o.shelf.given o.name) (o.shelf.changed o.name) (now.changed o.name)
  pub stopped : written ≡ true → failed ≡ true → StopsAtRow o rows (now.changed o.name)
  pub others : KeepsOthers o.shelf now o.name
  pub given : now.given ≡ o.shelf.given
  pub grows : o.shelf.write_faults o.name ≤ now.write_faults o.name
  pub rose : failed ≡ true → CountRose (o.shelf.write_faults o.name) (now.write_faults o.name)

-- what a caller of Board::new has to show
pub record IsStart (o : Start) (name : List ℕ) (own : List Row) (batches : ℕ) (shelf : ShelfState) : Type 0 where
  pub named : o.name ≡ name
  pub rows_same : o.rows ≡ own
  pub shelf_same : o.shelf ≡ shelf
  pub many : batches ≡ length o.entries
  pub entries : AreEntries o.entries
  pub rows_are : AreRows o own

-- a board, as callers see it
pub record BoardState (F : Type 0) : Type 0 where
  pub rows : List Row
  pub failed : Bool
  pub written : Bool
  pub shelf : F

-- the bytes to keep: none for a board without rows, or else the header and these rows, as they stand in the file
abbrev pub AreKeptBytes : (o : Start) (rows : List Row) (whole : ℕ) (held : Content) → Type 0
AreKeptBytes o rows whole held =
    ((whole ≡ 0) × (rows ≡ []))
    ⊎ ((whole ≡ 89 + 130 * length rows) × IsIfKnown held (λ bytes. take whole bytes ≡ file_text o.header rows)
    × (whole ≡ length (file_text o.header rows)))

-- the file is as before the call, or it is its first bytes, followed by a part of the header where none were kept
abbrev pub IsHeaderTorn : (header : List ℕ) (whole : ℕ) (before now : Content) → Type 0
IsHeaderTorn header whole before now =
    (now ≡ before) ⊎ IsIfKnown now (λ bytes. (n : ℕ) × (bytes ≡ take whole (bytes_of before) ++ take n header) × (whole ≢ 0 → n ≡ 0))
