-- The sums over kept rows, one row after the other.
use Rattle.std.proofs.Common.{◌≡◌, ◌∙◌, ap, sym, ℕ, zero, suc, ◌+◌, ◌<◌, List, [], ◌∷◌, length, map, take, get_or, arith}
use Rattle.std.specs.Prelude.{All}
use Rattle.std.proofs.lemmas.List.{map-append, take_more}
use Rattle.std.proofs.lemmas.List.Elements.{All-nil, All-cons, All-head, All-tail}
use Rattle.fm_base.specs.Once.{Lacks, IsOnce}
use Rattle.metric_sums.specs.declared.Sums.{Sums}
use Rattle.metric_sums.specs.Totals.{plus}
use Rattle.campaign_plan.specs.Analysis.{Analysis, batch_count}
use Rattle.campaign_plan.specs.Batches.{Entry, batches, own_sums, total, AreDistinct}
use Rattle.campaign_plan.proofs.Running.{total_push}
use Rattle.result_file.specs.declared.Row.{Row}
use Rattle.result_file.specs.KeptRows.{entry_of}

-- the entries of the first rows
abbrev pub first_entries : List Row → ℕ → List Entry
first_entries rows i = map entry_of (take i rows)

-- ---- the first rows are of distinct batches

lacks_first : (rows : List Row) (i batch : ℕ) → Lacks (batches (map entry_of rows)) batch → Lacks (batches (first_entries rows i)) batch
lacks_first rows zero batch lacks = tt
lacks_first [] (suc i) batch lacks = tt
lacks_first (row ∷ rows) (suc i) batch lacks = (lacks.0, lacks_first rows i batch lacks.1)

once_first : (rows : List Row) (i : ℕ) → IsOnce (batches (map entry_of rows)) → IsOnce (batches (first_entries rows i))
once_first rows zero once = tt
once_first [] (suc i) once = tt
once_first (row ∷ rows) (suc i) once = (lacks_first rows i row.batch once.0, once_first rows i once.1)

within_first : (rows : List Row) (i n : ℕ) → All (λ batch. batch < n) (batches (map entry_of rows)) → All (λ batch. batch < n) (batches (first_entries rows i))
within_first rows zero n within = All-nil (λ batch. batch < n)
within_first [] (suc i) n within = All-nil (λ batch. batch < n)
within_first (row ∷ rows) (suc i) n within =
    let P : ℕ → Type 0 = λ batch. batch < n in
    All-cons P row.batch (batches (first_entries rows i)) (All-head P row.batch (batches (map entry_of rows)) within)
    (within_first rows i n (All-tail P row.batch (batches (map entry_of rows)) within))

pub distinct_first : (p : Analysis) (rows : List Row) (i : ℕ) → AreDistinct p (map entry_of rows) → AreDistinct p (first_entries rows i)
distinct_first p rows i distinct =
    record { within = within_first rows i (batch_count p) distinct.within; once = once_first rows i distinct.once }

-- ---- one row more

pub one_more : (p : Analysis) (rows : List Row) (i : ℕ) (d : Row) (sums own : Sums) → i < length rows → sums ≡ total p (first_entries rows i)
    → own ≡ own_sums p (get_or rows i d).batch (entry_of (get_or rows i d)).1 → plus sums own ≡ total p (first_entries rows (i + 1))
one_more p rows i d sums own lt e f =
    ap (λ s. plus s own) e ∙ ap (plus (total p (first_entries rows i))) f
    ∙ sym (ap (λ rs. total p (map entry_of rs)) (take_more rows i d lt) ∙ ap (total p) (map-append entry_of (take i rows) (get_or rows i d ∷ []))
    ∙ total_push p (first_entries rows i) (entry_of (get_or rows i d)))

pub row_within : (p : Analysis) (rows : List Row) (i : ℕ) (d : Row) → AreDistinct p (map entry_of rows) → i < length rows → (get_or rows i d).batch < batch_count p
row_within p rows i d distinct lt = go rows i lt distinct.within
  where
    go : (rs : List Row) (k : ℕ) → k < length rs → All (λ batch. batch < batch_count p) (batches (map entry_of rs)) → (get_or rs k d).batch < batch_count p
    go [] k lt within = absurd (omega (arith, lt))
    go (row ∷ rs) zero lt within = All-head (λ batch. batch < batch_count p) row.batch (batches (map entry_of rs)) within
    go (row ∷ rs) (suc k) lt within = go rs k (omega (arith, lt)) (All-tail (λ batch. batch < batch_count p) row.batch (batches (map entry_of rs)) within)
