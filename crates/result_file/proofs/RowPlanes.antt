-- The planes of rows, by batch.
use Rattle.std.proofs.Common.{◌≡◌, ◌≢◌, ℕ, zero, suc, ◌<◌, true, false, List, [], ◌∷◌, length, get_or, map, refl, sym, subst, arith}
use Rattle.std.specs.Prelude.{◌==◌, All}
use Rattle.std.proofs.lemmas.List.Elements.{All-head, All-tail, All-cons, All-nil}
use Rattle.metric_sums.specs.Totals.{no_sums}
use Rattle.fm_base.specs.Once.{Lacks, IsOnce}
use Rattle.campaign_plan.specs.declared.Outcome.{Outcome}
use Rattle.campaign_plan.specs.Analysis.{Analysis, batch_count}
use Rattle.campaign_plan.specs.Batches.{batches}
use Rattle.result_file.specs.declared.Row.{Row}
use Rattle.result_file.specs.KeptRows.{entry_of}
use Rattle.result_file.specs.RowPlanes.{HoldEachOnce, planes_in}

-- the batches of rows
abbrev pub row_batches : List Row → List ℕ
row_batches rows = batches (map entry_of rows)

abbrev pub planes_of : Row → Outcome
planes_of row = (entry_of row).1

-- a batch that some row has
pub row_found : (rows : List Row) (k batch : ℕ) → k < length (row_batches rows) → get_or (row_batches rows) k batch ≡ batch
    → (k < length rows) × ((d : Row) → (get_or rows k d).batch ≡ batch)
row_found [] k batch lt e = absurd (omega (arith, lt))
row_found (row ∷ rows) zero batch lt e = (omega arith, λ d. e)
row_found (row ∷ rows) (suc k) batch lt e =
    let rest = row_found rows k batch (omega (arith, lt)) e in
    (omega (arith, rest.0), rest.1)

-- no row further on has the batch of one that stands once
lacks_at : (rows : List Row) (batch : ℕ) → Lacks (row_batches rows) batch → (k : ℕ) (d : Row) → k < length rows → (get_or rows k d).batch ≢ batch
lacks_at [] batch lacks k d lt = absurd (omega (arith, lt))
lacks_at (row ∷ rows) batch lacks zero d lt = lacks.0
lacks_at (row ∷ rows) batch lacks (suc k) d lt = lacks_at rows batch lacks.1 k d (omega (arith, lt))

-- the planes of a row's batch are its own
pub planes_in-at : (rows : List Row) → IsOnce (row_batches rows) → (k : ℕ) (d : Row) → k < length rows
    → planes_in rows (get_or rows k d).batch ≡ planes_of (get_or rows k d)
planes_in-at [] once k d lt = absurd (omega (arith, lt))
planes_in-at (row ∷ rows) once zero d lt = let same : (row.batch == row.batch) ≡ true = grind arith in rw same refl
planes_in-at (row ∷ rows) once (suc k) d lt =
    let lower : k < length rows = omega (arith, lt) in
    let other = lacks_at rows row.batch once.0 k d lower in
    let apart : (row.batch == (get_or rows k d).batch) ≡ false = grind (arith, other) in
    rw apart (planes_in-at rows once.1 k d lower)

-- a batch that no row has
pub planes_in-none : (rows : List Row) (batch : ℕ) → All (λ (row : Row). row.batch < batch) rows → planes_in rows batch ≡ record { danger = 0; noticed = 0 }
planes_in-none [] batch below = refl
planes_in-none (row ∷ rows) batch below =
    let P : Row → Type 0 = λ r. r.batch < batch in
    let here = All-head P row rows below in
    let apart : (row.batch == batch) ≡ false = grind (arith, here) in
    rw apart (planes_in-none rows batch (All-tail P row rows below))

-- no row
abbrev pub no_row : Row
no_row = record { batch = 0; danger = 0; noticed = 0; sums = no_sums }

-- the row of a place
abbrev pub row_at : List Row → ℕ → Row
row_at rows k = get_or rows k no_row

-- each row's batch is below a bound
pub rows_below : (rows : List Row) (n : ℕ) → All (λ batch. batch < n) (row_batches rows) → All (λ (row : Row). row.batch < n) rows
rows_below [] n below = All-nil (λ (row : Row). row.batch < n)
rows_below (row ∷ rows) n below =
    let P : ℕ → Type 0 = λ batch. batch < n in
    All-cons (λ (r : Row). r.batch < n) row rows (All-head P row.batch (row_batches rows) below)
    (rows_below rows n (All-tail P row.batch (row_batches rows) below))

-- so each row has its place
pub rows_within : (p : Analysis) (rows : List Row) (n : ℕ) → HoldEachOnce p rows → n ≡ batch_count p → All (λ (row : Row). row.batch < n) rows
rows_within p rows n hold same =
    subst (λ (bound : ℕ). All (λ (row : Row). row.batch < bound) rows) (sym same) (rows_below rows (batch_count p) hold.distinct.within)
