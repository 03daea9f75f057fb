-- What is kept of a result file when it is read back.
use Rattle.std.specs.Prelude.{◌≡◌, ◌^◌, ◌<◌, All, IsFalse, ℕ, ◌+◌, ◌-◌, ◌*◌, ◌/◌, Bool, not, ◌&&◌, ◌||◌, List, [], ◌∷◌, ◌++◌, map, length, take, fold, Option, Some, None, Result, Ok, Err, if◌then◌else◌, nat_lt, nat_le, ◌==◌, slice_range, nat_eq, codes}
use Rattle.std.specs.List.{list_any, starts_with, position_or_len}
use Rattle.std.specs.Str.{bytes_eq}
use Rattle.metric_sums.specs.declared.Sums.{Sums}
use Rattle.metric_sums.specs.Totals.{same_sums, no_sums}
use Rattle.fm_base.specs.Lists.{below}
use Rattle.fm_base.specs.Planes.{lanes, bit}
use Rattle.fault_list.specs.Faults.{is_used}
use Rattle.campaign_plan.specs.Analysis.{Analysis, fault_count, batch_count}
use Rattle.campaign_plan.specs.Batches.{Entry, total, AreDistinct}
use Rattle.campaign_plan.specs.Kept.{IsPlan}
use Rattle.result_file.specs.declared.Row.{Row}
use Rattle.result_file.specs.declared.RowFault.{RowFault}
use Rattle.result_file.specs.declared.RowFault.TheVariants as why
use Rattle.result_file.specs.declared.KeptRows.{KeptRows}
use Rattle.result_file.specs.declared.ResultRefusal.{ResultRefusal}
use Rattle.result_file.specs.declared.ResultRefusal.TheVariants.{Foreign, BadRow}
use Rattle.result_file.specs.ResultText.{row_text, row_of, result_rows, result_text}
use Rattle.fm_base.specs.Firsts.{given, first_answer, first_fault}
use Rattle.fm_base.specs.Names.{Bytes}

-- the number that hexadecimal digits stand for
unfoldable pub hex_value : Bytes → ℕ
hex_value digits = fold (λ n digit. 16 * n + position_or_len (nat_eq digit) (codes "0123456789abcdef")) 0 digits

-- the row that a piece of 130 bytes reads as
abbrev pub row_read : Bytes → Row
row_read piece =
    let at : ℕ → ℕ = λ from. hex_value (slice_range piece from (from + 16)) in
    let sums : Sums =
    record { permanent_all = at 45; permanent_danger = at 62; latent = at 79; transient_all = at 96; transient_danger = at 113 } in
    record { batch = hex_value (slice_range piece 2 10); danger = at 11; noticed = at 28; sums = sums }

-- the batch and the planes of a row
abbrev pub entry_of : Row → Entry
entry_of row = (row.batch, record { danger = row.danger; noticed = row.noticed })

-- the first rule that a piece breaks, behind the pieces before it: it is no row's text; its batch isn't below the number of batches, or
-- stands in an earlier row; a lane that holds no fault has a bit that is 1; its sums aren't those of this row's and the earlier planes
unfoldable pub row_fault : Analysis → List Bytes → Bytes → Option RowFault
row_fault p before piece =
    let rows = map row_read before in
    let row = row_read piece in
    let unused = list_any (λ k. not (is_used (fault_count p) row.batch k) && (bit row.danger k || bit row.noticed k)) (below lanes) in
    let computed = total p (map entry_of rows ++ entry_of row ∷ []) in
    first_answer (given (not (bytes_eq (row_text row) piece)) why.Form ∷ given (nat_le (batch_count p) row.batch) why.Range
    ∷ given (list_any (λ earlier. earlier.batch == row.batch) rows) why.Repeated ∷ given unused why.UnusedLane
    ∷ given (not (same_sums row.sums computed)) (why.Sums row.sums computed) ∷ [])

-- what is kept of a file under the own header (89 bytes; rows have 130), or the first rule broken; a part of the header, or of a last row, is nothing
unfoldable pub kept : Bytes → Analysis → Bytes → Result KeptRows ResultRefusal
kept own p bytes =
    let rows : List Bytes = map (λ k. slice_range bytes (89 + 130 * k) (89 + 130 * (k + 1))) (below ((length bytes - 89) / 130)) in
    let fault = first_fault (row_fault p) rows in
    if nat_lt (length bytes) 89 && starts_with nat_eq own bytes then Ok (record { rows = []; whole = 0 })
    else if not (bytes_eq (take 89 bytes) own) then Err (Foreign (take 89 bytes) own)
    else elim fault [ Some it ↦ Err (BadRow it.0 it.1) | None ↦ Ok (record { rows = map row_read rows; whole = 89 + 130 * length rows }) ]

-- the batches and planes of kept rows
abbrev pub kept_entries : KeptRows → List Entry
kept_entries k = map entry_of k.rows

-- ---- shapes of private steps, which the promise on the program doesn't cite

-- the length of the header in bytes
abbrev pub header_len : ℕ
header_len = 89

-- the length of a row
abbrev pub row_len : ℕ
row_len = 130

-- the whole rows behind the header; a last piece of fewer bytes isn't looked at
abbrev pub whole_pieces : Bytes → List Bytes
whole_pieces bytes = map (λ k. slice_range bytes (header_len + row_len * k) (header_len + row_len * (k + 1))) (below ((length bytes - header_len) / row_len))

-- the first bad row, or else the rows and the bytes that are kept
abbrev pub kept_unless : Option (ℕ × RowFault) → List Bytes → Result KeptRows ResultRefusal
kept_unless fault rows = elim fault [
  | Some bad ↦ Err (BadRow bad.0 bad.1)
  | None ↦ Ok (record { rows = map row_read rows; whole = header_len + row_len * length rows })
]

-- the file is shorter than a header, and begins as the own one does
abbrev pub is_torn_header : Bytes → Bytes → Bool
is_torn_header own bytes = nat_lt (length bytes) header_len && starts_with nat_eq own bytes

-- a lane that holds no fault has a bit that is 1
abbrev pub has_unused_lane : Analysis → Row → Bool
has_unused_lane p row =
    list_any (λ k. not (is_used (fault_count p) row.batch k) && (bit row.danger k || bit row.noticed k)) (below lanes)

-- a piece has the row's form: it is the text of the row that it reads as
abbrev pub has_form : Bytes → Bool
has_form piece = bytes_eq (row_text (row_read piece)) piece

-- the planes fit a word, and lanes that hold no fault are 0 in them
pub record FitsLanes (p : Analysis) (entry : Entry) : Type 0 where
  pub danger : entry.1.danger < 2 ^ 64
  pub noticed : entry.1.noticed < 2 ^ 64
  pub unused : IsFalse (has_unused_lane p (row_of entry no_sums))

-- for a list of distinct batches of the plan with any planes, all rows and all bytes are kept
abbrev pub ReadsBackOf : Analysis → Type 0
ReadsBackOf p = (own : Bytes) (entries : List Entry) → length own ≡ header_len → AreDistinct p entries → All (FitsLanes p) entries
    → kept own p (result_text own p entries)
    ≡ Ok (record { rows = result_rows p entries; whole = length (result_text own p entries) })

-- WHAT WAS WRITTEN IS READ BACK, of each plan
abbrev pub ReadsBack : Type 0
ReadsBack = (p : Analysis) → IsPlan p → ReadsBackOf p
