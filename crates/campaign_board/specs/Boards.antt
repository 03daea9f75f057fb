-- What a board began with, and the rows that are due.
use Rattle.std.specs.Prelude.{◌≡◌, ℕ, Bool, ◌+◌, ◌<◌, ◌≤◌, List, [], ◌∷◌, ◌++◌, map, flat_map, length, take, slice_index_or}
use Rattle.fm_shelf.specs.Shelf.{ShelfState}
use Rattle.metric_sums.specs.declared.Sums.{Sums}
use Rattle.metric_sums.specs.Totals.{AreSmall, no_sums, sums_by}
use Rattle.result_file.specs.declared.Row.{Row}
use Rattle.result_file.specs.ResultText.{row_text}
use Rattle.campaign_board.specs.declared.entry.Entry.{Entry}

-- the entries, one for each batch; of which batches the board takes rows; the header line; the file's name; the rows at the start, and how many
-- bytes of the file are kept for them; and what was seen of the shelf then
pub record Start : Type 0 where
  pub entries : List Entry
  pub takes : ℕ → Bool
  pub header : List ℕ
  pub name : List ℕ
  pub rows : List Row
  pub whole : ℕ
  pub shelf : ShelfState

abbrev pub board_entry : List Entry → ℕ → Entry
board_entry entries batch = slice_index_or entries batch (record { batch = 0; danger = 0; noticed = 0; own = no_sums })

-- an entry for each batch below their number, with small sums over all of them
pub record AreEntries (entries : List Entry) : Type 0 where
  pub few : length entries ≤ 16384
  pub numbered : (batch : ℕ) → batch < length entries → (board_entry entries batch).batch ≡ batch
  pub small : AreSmall (sums_by (λ entry. entry.own) entries)

abbrev pub batches_of : List Row → List ℕ
batches_of rows = map (λ row. row.batch) rows

-- the sums over the entries of these batches, from scratch
abbrev pub sums_over : List Entry → List ℕ → Sums
sums_over entries batches = sums_by (λ batch. (board_entry entries batch).own) batches

-- the row of an entry with these sums
abbrev pub row_with : Entry → Sums → Row
row_with entry sums = record { batch = entry.batch; danger = entry.danger; noticed = entry.noticed; sums = sums }

-- the row that is due at place k of these batches: its sums are those up to it
abbrev pub row_due : List Entry → List ℕ → ℕ → Row
row_due entries batches k = row_with (board_entry entries (slice_index_or batches k 0)) (sums_over entries (take (k + 1) batches))

-- the row that is due for one more batch
abbrev pub next_row : List Entry → List Row → ℕ → Row
next_row entries rows batch = row_with (board_entry entries batch) (sums_over entries (batches_of rows ++ batch ∷ []))

abbrev pub row_at_place : List Row → ℕ → Row
row_at_place rows k = slice_index_or rows k (record { batch = 0; danger = 0; noticed = 0; sums = no_sums })

abbrev pub file_text : List ℕ → List Row → List ℕ
file_text header rows = header ++ flat_map row_text rows
