-- Shapes of private steps: the numbers of a piece, and its checks behind rows that have been read. Nothing public cites them.
use Rattle.std.specs.Prelude.{ℕ, ◌+◌, not, List, [], ◌∷◌, ◌++◌, map, Option, nat_le, ◌==◌, slice_range}
use Rattle.std.specs.List.{list_any}
use Rattle.metric_sums.specs.Totals.{same_sums}
use Rattle.campaign_plan.specs.Analysis.{Analysis, batch_count}
use Rattle.campaign_plan.specs.Batches.{total}
use Rattle.result_file.specs.declared.Row.{Row}
use Rattle.result_file.specs.declared.RowFault.{RowFault}
use Rattle.result_file.specs.declared.RowFault.TheVariants as why
use Rattle.fm_base.specs.Firsts.{given, first_answer}
use Rattle.fm_base.specs.Names.{Bytes}
use Rattle.result_file.specs.KeptRows.{entry_of, has_form, has_unused_lane, hex_value, row_read}

-- the number in so many digits from a place of a piece on
abbrev pub digits_at : Bytes → ℕ → ℕ → ℕ
digits_at piece from digits = hex_value (slice_range piece from (from + digits))

-- a row's checks, in order, behind the rows before it
abbrev pub fault_over : Analysis → List Row → Bytes → Option RowFault
fault_over p rows piece =
    let row = row_read piece in
    let computed = total p (map entry_of rows ++ entry_of row ∷ []) in
    first_answer (
    given (not (has_form piece)) why.Form
    ∷ given (nat_le (batch_count p) row.batch) why.Range
    ∷ given (list_any (λ earlier. earlier.batch == row.batch) rows) why.Repeated
    ∷ given (has_unused_lane p row) why.UnusedLane
    ∷ given (not (same_sums row.sums computed)) (why.Sums row.sums computed)
    ∷ [])
