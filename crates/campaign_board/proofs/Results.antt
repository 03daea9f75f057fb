-- The rows of a board are the definition's result rows.
use Rattle.std.proofs.Common.{◌≡◌, ℕ, zero, suc, ◌+◌, ◌<◌, ◌≤◌, List, [], ◌∷◌, ◌++◌, map, length, take, get_or, refl, ap, ap₂, sym, ◌∙◌, arith}
use Rattle.std.specs.List.{flat_map}
use Rattle.std.proofs.lemmas.List.{take_more, take-map, map-append, length-map, get_or-map, ext_get_or}
use Rattle.metric_sums.specs.Totals.{plus}
use Rattle.campaign_plan.specs.Analysis.{Analysis}
use Rattle.campaign_plan.specs.Batches.{own_sums, total}
use Rattle.campaign_plan.proofs.Running.{total_push}
use Rattle.result_file.specs.declared.Row.{Row}
use Rattle.result_file.specs.ResultText.{row_text, row_of, row_at, result_rows, entry_at}
use Rattle.result_file.specs.KeptRows.{entry_of as planes_of}
use Rattle.result_file.proofs.Whole.{no_row}
use Rattle.result_file.proofs.WrittenBack.{length-result_rows, row_is}
use Rattle.campaign_board.specs.Boards.{Start, AreEntries, board_entry, batches_of, sums_over}
use Rattle.campaign_board.specs.Kept.{AreRows}
use Rattle.campaign_board.specs.AsResult.{HasOwnSums, BoardsAreResults}
use Rattle.campaign_board.proofs.Adding.{sums_push}

-- the plan's own sums of a row are its entry's
own_at : (p : Analysis) (o : Start) (rows : List Row) → AreEntries o.entries → HasOwnSums p o → AreRows o rows → (k : ℕ) → k < length rows
    → own_sums p (planes_of (get_or rows k no_row)).0 (planes_of (get_or rows k no_row)).1 ≡ (board_entry o.entries (get_or (batches_of rows) k 0)).own
own_at p o rows are own h k lt =
    let batch : ℕ = get_or (batches_of rows) k 0 in
    let within : batch < length o.entries = h.within k 0 (omega (arith, lt, length-map rows (λ (r : Row). r.batch))) in
    ap (λ (r : Row). own_sums p (planes_of r).0 (planes_of r).1) (h.due k lt)
    ∙ ap (λ b. own_sums p b (record { danger = (board_entry o.entries batch).danger; noticed = (board_entry o.entries batch).noticed })) (are.numbered batch within)
    ∙ sym (own batch within)

-- the totals over the first rows
totals : (p : Analysis) (o : Start) (rows : List Row) → AreEntries o.entries → HasOwnSums p o → AreRows o rows → (k : ℕ) → k ≤ length rows
    → total p (map planes_of (take k rows)) ≡ sums_over o.entries (take k (batches_of rows))
totals p o rows are own h zero le = refl
totals p o rows are own h (suc k) le =
    let row : Row = get_or rows k no_row in
    let lt : k < length rows = omega arith in
    let many = length-map rows (λ (r : Row). r.batch) in
    let succ : suc k ≡ k + 1 = omega arith in
    let front : take (suc k) rows ≡ take k rows ++ row ∷ [] = ap (λ n. take n rows) succ ∙ take_more rows k no_row lt in
    let batches : take (suc k) (batches_of rows) ≡ take k (batches_of rows) ++ get_or (batches_of rows) k 0 ∷ [] =
    ap (λ n. take n (batches_of rows)) succ ∙ take_more (batches_of rows) k 0 (omega (arith, lt, many)) in
    ap (λ rs. total p (map planes_of rs)) front ∙ ap (total p) (map-append planes_of (take k rows) (row ∷ []))
    ∙ total_push p (map planes_of (take k rows)) (planes_of row)
    ∙ ap₂ plus (totals p o rows are own h k (omega arith)) (own_at p o rows are own h k lt)
    ∙ sym (sums_push o.entries (take k (batches_of rows)) (get_or (batches_of rows) k 0)) ∙ ap (sums_over o.entries) (sym batches)

-- the row at a place is the definition's
row_same : (p : Analysis) (o : Start) (rows : List Row) → AreEntries o.entries → HasOwnSums p o → AreRows o rows → (k : ℕ) → k < length rows
    → get_or rows k no_row ≡ row_at p (map planes_of rows) k
row_same p o rows are own h k lt =
    let row : Row = get_or rows k no_row in
    let entry : entry_at (map planes_of rows) k ≡ planes_of row = get_or-map planes_of rows k no_row (0, record { danger = 0; noticed = 0 }) lt in
    let front : take (k + 1) (map planes_of rows) ≡ map planes_of (take (k + 1) rows) = take-map planes_of (k + 1) rows in
    let sums : row.sums ≡ total p (take (k + 1) (map planes_of rows)) =
    ap (λ (r : Row). r.sums) (h.due k lt) ∙ sym (totals p o rows are own h (k + 1) (omega arith)) ∙ ap (total p) (sym front) in
    ap (row_of (planes_of row)) sums ∙ ap (λ e. row_of e (total p (take (k + 1) (map planes_of rows)))) (sym entry)

pub boards_are_results : BoardsAreResults
boards_are_results p o rows are own h =
    let many : length rows ≡ length (result_rows p (map planes_of rows)) = sym (length-result_rows p (map planes_of rows) ∙ length-map rows planes_of) in
    let same : rows ≡ result_rows p (map planes_of rows) =
    ext_get_or no_row rows (result_rows p (map planes_of rows)) many
    (λ k lt. row_same p o rows are own h k lt ∙ sym (row_is p (map planes_of rows) k (omega (arith, lt, length-map rows planes_of)))) in
    record { rows_are = same; text_is = ap (λ rs. o.header ++ flat_map row_text rs) same }
