-- The planes of rows, by batch.
use Rattle.std.proofs.Common.{◌≡◌, ◌≢◌, ℕ, zero, suc, ◌+◌, ◌<◌, ◌==◌, Bool, true, false, List, [], ◌∷◌, ◌++◌, map, length, take, get_or, set, refl, ap, sym, ◌∙◌, arith}
use Rattle.std.specs.Prelude.{All, Option, Some, None}
use Rattle.std.specs.Option.{option_or}
use Rattle.std.proofs.lemmas.Bool.Decides.{nat_tests}
use Rattle.std.proofs.lemmas.Grind.{get_or-set_at}
use Rattle.std.proofs.lemmas.List.{get_or-set_other, take_more, ext_get_or}
use Rattle.std.proofs.lemmas.List.FromFn.{length-map-range_with_len, get_or-map-range_with_len}
use Rattle.fm_base.specs.Once.{Lacks, IsOnce}
use Rattle.fm_base.specs.Lists.{below}
use Rattle.metric_sums.specs.Totals.{no_sums}
use Rattle.campaign_plan.specs.declared.Outcome.{Outcome}
use Rattle.campaign_plan.specs.Batches.{Entry, batches}
use Rattle.result_file.specs.declared.Row.{Row}
use Rattle.result_file.specs.KeptRows.{entry_of}
use Rattle.result_merge.specs.Union.{found}
use Rattle.result_merge.specs.Tables.{Table, at_batch, planes_table}

abbrev pub row_batches : List Row → List ℕ
row_batches rows = batches (map entry_of rows)

abbrev pub no_row : Row
no_row = record { batch = 0; danger = 0; noticed = 0; sums = no_sums }

abbrev pub row_at : List Row → ℕ → Row
row_at rows k = get_or rows k no_row

-- what the rows have of a batch
abbrev pub had : List Row → ℕ → Option Outcome
had rows batch = found (map entry_of rows) batch

-- ---- rows of distinct batches

lacks_at : (rows : List Row) (batch : ℕ) → Lacks (row_batches rows) batch → (k : ℕ) → k < length rows → (row_at rows k).batch ≢ batch
lacks_at [] batch lacks k lt = absurd (omega (arith, lt))
lacks_at (row ∷ rows) batch lacks zero lt = lacks.0
lacks_at (row ∷ rows) batch lacks (suc k) lt = lacks_at rows batch lacks.1 k (omega (arith, lt))

-- no row before one has its batch
lacks_before : (rows : List Row) (i : ℕ) → IsOnce (row_batches rows) → i < length rows → Lacks (row_batches (take i rows)) (row_at rows i).batch
lacks_before rows zero once lt = tt
lacks_before [] (suc i) once lt = absurd (omega (arith, lt))
lacks_before (row ∷ rows) (suc i) once lt =
    let other = lacks_at rows row.batch once.0 i (omega (arith, lt)) in
    (λ e. other (sym e), lacks_before rows i once.1 (omega (arith, lt)))

had_none : (rows : List Row) (batch : ℕ) → Lacks (row_batches rows) batch → had rows batch ≡ None
had_none [] batch lacks = refl
had_none (row ∷ rows) batch lacks =
    let other = lacks.0 in
    let test : (row.batch == batch) ≡ false = grind (arith, other) in
    rw test (had_none rows batch lacks.1)

had_push : (rows : List Row) (row : Row) (batch : ℕ) → had (rows ++ row ∷ []) batch ≡ option_or (had rows batch) (had (row ∷ []) batch)
had_push [] row batch = refl
had_push (first ∷ rows) row batch = by_test (first.batch == batch) refl (had_push rows row batch)
  where
    by_test : (here : Bool) → (first.batch == batch) ≡ here → had (rows ++ row ∷ []) batch ≡ option_or (had rows batch) (had (row ∷ []) batch)
        → had (first ∷ (rows ++ row ∷ [])) batch ≡ option_or (had (first ∷ rows) batch) (had (row ∷ []) batch)
    by_test true t more = rw t refl
    by_test false t more = rw t more

or_none : (o : Option Outcome) → option_or o None ≡ o
or_none None = refl
or_none (Some x) = refl

-- one more row's planes stand at its batch
pub place_more : (rows : List Row) (planes : Table) (i n : ℕ) → IsOnce (row_batches rows) → i < length rows → (row_at rows i).batch < n → length planes ≡ n
    → ((batch : ℕ) → batch < n → at_batch planes batch ≡ had (take i rows) batch)
    → (batch : ℕ) → batch < n → at_batch (set planes (row_at rows i).batch (Some (entry_of (row_at rows i)).1)) batch ≡ had (take (i + 1) rows) batch
place_more rows planes i n once lt within count before batch under =
    let row : Row = row_at rows i in
    let more : had (take (i + 1) rows) batch ≡ option_or (had (take i rows) batch) (had (row ∷ []) batch) =
    ap (λ rs. had rs batch) (take_more rows i no_row lt) ∙ had_push (take i rows) row batch in
    by_test (row.batch == batch) refl more
  where
    by_test : (here : Bool) → ((row_at rows i).batch == batch) ≡ here
        → had (take (i + 1) rows) batch ≡ option_or (had (take i rows) batch) (had (row_at rows i ∷ []) batch)
        → at_batch (set planes (row_at rows i).batch (Some (entry_of (row_at rows i)).1)) batch ≡ had (take (i + 1) rows) batch
    by_test true t more =
        let same : batch ≡ (row_at rows i).batch = grind (arith, nat_tests) in
        let none : had (take i rows) batch ≡ None = ap (had (take i rows)) same ∙ had_none (take i rows) (row_at rows i).batch (lacks_before rows i once lt) in
        let one : had (row_at rows i ∷ []) batch ≡ Some (entry_of (row_at rows i)).1 = rw t refl in
        get_or-set_at planes (row_at rows i).batch batch (Some (entry_of (row_at rows i)).1) None same (omega (arith, within, count))
        ∙ sym (more ∙ ap (λ o. option_or o (had (row_at rows i ∷ []) batch)) none ∙ one)
    by_test false t more =
        let other : batch ≢ (row_at rows i).batch = grind (arith, nat_tests) in
        let none : had (row_at rows i ∷ []) batch ≡ None = rw t refl in
        get_or-set_other planes (row_at rows i).batch batch (Some (entry_of (row_at rows i)).1) None other
        ∙ before batch under
        ∙ sym (more ∙ ap (option_or (had (take i rows) batch)) none ∙ or_none (had (take i rows) batch))

-- each row's batch is below a bound
pub batch_within : (rows : List Row) (n : ℕ) → All (λ batch. batch < n) (row_batches rows) → (i : ℕ) → i < length rows → (row_at rows i).batch < n
batch_within [] n all i lt = absurd (omega (arith, lt))
batch_within (row ∷ rows) n all zero lt = all 0 0 (omega arith)
batch_within (row ∷ rows) n all (suc i) lt = batch_within rows n (λ k d low. all (suc k) d (omega (arith, low))) i (omega (arith, lt))

-- ---- the table

pub length-table : (n : ℕ) (entries : List Entry) → length (planes_table n entries) ≡ n
unfolding below
length-table n entries = length-map-range_with_len (found entries) 0 n

pub table_at : (n : ℕ) (entries : List Entry) (batch : ℕ) → batch < n → at_batch (planes_table n entries) batch ≡ found entries batch
unfolding below
table_at n entries batch lt = get_or-map-range_with_len (found entries) 0 n batch batch None lt (omega arith)

-- a table that has at each place what the list has
pub table_is : (n : ℕ) (entries : List Entry) (table : Table) → length table ≡ n → ((batch : ℕ) → batch < n → at_batch table batch ≡ found entries batch)
    → table ≡ planes_table n entries
table_is n entries table count has =
    ext_get_or None table (planes_table n entries) (count ∙ sym (length-table n entries))
    (λ batch lt. (let under : batch < n = omega (arith, lt, count) in has batch under ∙ sym (table_at n entries batch under)))
