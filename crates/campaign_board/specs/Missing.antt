-- The batches that the rows at the start lack, and the numbers that they have on the claim counter.
use Rattle.std.specs.Prelude.{ℕ, ◌<◌, ◌==◌, not, List, ◌++◌, map, filter, length, drop, slice_index_or}
use Rattle.std.specs.List.{list_any, position_or_len}
use Rattle.fm_base.specs.Lists.{below}
use Rattle.fm_base.specs.Once.{Lacks}
use Rattle.result_file.specs.declared.Row.{Row}
use Rattle.campaign_board.specs.Boards.{Start, batches_of}

-- the batches below their number that these lack, in rising order
unfoldable pub missing_below : ℕ → List ℕ → List ℕ
missing_below batches kept = filter (λ batch. not (list_any (λ other. other == batch) kept)) (below batches)

-- the batches to do: those that the rows at the start lack
abbrev pub batches_missing : Start → List ℕ
batches_missing o = missing_below (length o.entries) (batches_of o.rows)

-- the batch is one of those to do
abbrev pub IsMissing : Start → ℕ → Type 0
IsMissing o batch = (batch < length o.entries) × Lacks (batches_of o.rows) batch

-- the number of a batch: its place among the batches to do
unfoldable pub claim_number : Start → ℕ → ℕ
claim_number o batch = position_or_len (λ other. other == batch) (batches_missing o)

-- the batch with a number
abbrev pub batch_numbered : Start → ℕ → ℕ
batch_numbered o number = slice_index_or (batches_missing o) number 0

-- the rows after those at the start
abbrev pub added_rows : Start → List Row → List Row
added_rows o rows = drop (length o.rows) rows

-- the number of each row after those at the start
abbrev pub numbers_of : Start → List Row → List ℕ
numbers_of o rows = map (claim_number o) (batches_of (added_rows o rows))

-- the batches of the rows at the start, followed by those with these numbers
abbrev pub batches_with : Start → List ℕ → List ℕ
batches_with o numbers = batches_of o.rows ++ map (batch_numbered o) numbers
