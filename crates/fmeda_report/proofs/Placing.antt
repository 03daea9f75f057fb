-- The planes of rows, put to the place of their batch.
use Rattle.std.proofs.Common.{◌≡◌, ◌≢◌, ℕ, ◌+◌, ◌<◌, ◌≤◌, Bool, true, false, List, length, set, refl, ap, sym, ◌∙◌, arith}
use Rattle.std.specs.Prelude.{◌==◌, All, nat_lt}
use Rattle.std.proofs.lemmas.Grind.{get_or-set_at}
use Rattle.std.proofs.lemmas.List.{get_or-set_other, get_or_past}
use Rattle.fm_base.specs.Once.{IsOnce}
use Rattle.campaign_plan.specs.declared.Outcome.{Outcome}
use Rattle.campaign_plan.specs.Analysis.{Analysis, batch_count}
use Rattle.result_file.specs.declared.Row.{Row}
use Rattle.result_file.specs.RowPlanes.{HoldEachOnce, planes_in}
use Rattle.result_file.proofs.RowPlanes.{no_row, planes_in-at, planes_in-none, planes_of, row_at, row_batches, row_found, rows_below}
use Rattle.fmeda_report.specs.Tallies.{planes_in_order}

abbrev placed : List Outcome → List Row → ℕ → Type 0
placed planes rows k = planes_in_order planes (row_at rows k).batch ≡ planes_in rows (row_at rows k).batch

-- one more row's planes stand at its batch
pub place_more : (rows : List Row) (planes : List Outcome) (i n : ℕ) → IsOnce (row_batches rows) → i < length rows
    → All (λ (row : Row). row.batch < n) rows → length planes ≡ n → ((k : ℕ) → k < i → placed planes rows k)
    → (k : ℕ) → k < i + 1 → placed (set planes (row_at rows i).batch (planes_of (row_at rows i))) rows k
place_more rows planes i n once lt all count before k below = by_cases ((row_at rows k).batch == (row_at rows i).batch) refl
  where
    by_cases : (b : Bool) → ((row_at rows k).batch == (row_at rows i).batch) ≡ b
        → placed (set planes (row_at rows i).batch (planes_of (row_at rows i))) rows k
    by_cases true e =
        let same : (row_at rows k).batch ≡ (row_at rows i).batch = grind (arith, e) in
        let within : (row_at rows i).batch < length planes = omega (arith, all i no_row lt, count) in
        get_or-set_at planes (row_at rows i).batch (row_at rows k).batch (planes_of (row_at rows i)) _ same within
        ∙ sym (ap (planes_in rows) same ∙ planes_in-at rows once i _ lt)
    by_cases false e =
        let other : (row_at rows k).batch ≢ (row_at rows i).batch = grind (arith, e) in
        let apart : k ≢ i = λ here. other (ap (λ j. (row_at rows j).batch) here) in
        let lower : k < i = omega (arith, below, apart) in
        get_or-set_other planes (row_at rows i).batch (row_at rows k).batch (planes_of (row_at rows i)) _ other ∙ before k lower

-- where each row's planes stand at its batch, the planes by place are those of the rows
pub placed_all : (p : Analysis) (rows : List Row) (planes : List Outcome) → HoldEachOnce p rows → length planes ≡ batch_count p
    → ((k : ℕ) → k < length rows → placed planes rows k) → (batch : ℕ) → planes_in_order planes batch ≡ planes_in rows batch
placed_all p rows planes hold count each batch = by_cases (nat_lt batch (batch_count p)) refl
  where
    by_cases : (b : Bool) → nat_lt batch (batch_count p) ≡ b → planes_in_order planes batch ≡ planes_in rows batch
    by_cases true e =
        let lt : batch < batch_count p = grind (arith, e) in
        let there = hold.each batch lt in
        let found = row_found rows there.0 batch there.1 there.2 in
        let same : (row_at rows there.0).batch ≡ batch = found.1 no_row in
        ap (planes_in_order planes) (sym same) ∙ each there.0 found.0 ∙ ap (planes_in rows) same
    by_cases false e =
        let le : batch_count p ≤ batch = grind (arith, e) in
        let past : length planes ≤ batch = omega (arith, le, count) in
        get_or_past planes batch _ past ∙ sym (planes_in-none rows batch (λ k d lt. omega (arith, le, rows_below rows (batch_count p) hold.distinct.within k d lt)))
