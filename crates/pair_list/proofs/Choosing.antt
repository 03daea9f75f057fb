-- The pairs by the rows of a file, case by case.
use Rattle.std.proofs.Common.{◌≡◌, ℕ, suc, ◌+◌, ◌*◌, ◌^◌, ◌<◌, ◌≤◌, ◌==◌, Bool, true, false, cond, not, ◌&&◌, ◌||◌, List, [], ◌∷◌, ◌++◌, map, length, refl, ap, ap₂, sym, ◌∙◌, append-nil, arith}
use Rattle.std.specs.Prelude.{None, Ok, Err, unwrap_or, is_some, nat_lt, filter}
use Rattle.std.specs.List.{list_any, list_all}
use Rattle.std.proofs.lemmas.Bool.Decides.{nat_tests}
use Rattle.std.proofs.lemmas.List.{get_or_past}
use Rattle.std.proofs.lemmas.List.Elements.{filter-append}
use Rattle.std.proofs.lemmas.List.Folds.{list_all-map}
use Rattle.std.proofs.lemmas.List.FromFn.{length-range_with_len}
use Rattle.std.proofs.lemmas.List.Sums.{length-filter, count_by-le-length}
use Rattle.fm_base.specs.Lists.{below}
use Rattle.fm_base.proofs.Below.{below_push}
use Rattle.metric_sums.specs.declared.Class.{Class}
use Rattle.metric_sums.specs.declared.Class.TheVariants.{Detected, Latent}
use Rattle.campaign_plan.specs.Analysis.{Analysis, batch_count}
use Rattle.campaign_plan.specs.Batches.{batches, AreDistinct}
use Rattle.fm_base.proofs.SumsBelow.{once_le, sum_by-ones, sum_up-ones}
use Rattle.result_file.specs.declared.Row.{Row}
use Rattle.result_file.specs.KeptRows.{entry_of}
use Rattle.result_file.specs.RowPlanes.{Planes, planes_in}
use Rattle.result_file.proofs.RowPlanes.{rows_below, planes_in-none}
use Rattle.result_merge.specs.Union.{found}
use Rattle.result_merge.specs.Tables.{Table, planes_table, planes_at}
use Rattle.result_merge.proofs.Tabling.{length-table, table_at}
use Rattle.pair_list.specs.declared.pairs.PairRefusal.TheVariants.{Incomplete, TooMany}
use Rattle.pair_list.specs.Pairs.{faults_in_class}
use Rattle.pair_list.specs.Chosen.{chosen, pair_count, has_row, pair_refusal, pairs_by_rows}
use Rattle.pair_list.proofs.Placing.{count_is}

-- the table of the rows
abbrev pub table : Analysis → List Row → Table
table p rows = planes_table (batch_count p) (map entry_of rows)

-- ---- the planes

found_planes : (rows : List Row) (batch : ℕ) → unwrap_or (found (map entry_of rows) batch) (record { danger = 0; noticed = 0 }) ≡ planes_in rows batch
found_planes [] batch = refl
found_planes (row ∷ rows) batch = by_test (row.batch == batch) refl (found_planes rows batch)
  where
    by_test : (here : Bool) → (row.batch == batch) ≡ here → unwrap_or (found (map entry_of rows) batch) (record { danger = 0; noticed = 0 }) ≡ planes_in rows batch
        → unwrap_or (found (map entry_of (row ∷ rows)) batch) (record { danger = 0; noticed = 0 }) ≡ planes_in (row ∷ rows) batch
    by_test true t rest = rw t refl
    by_test false t rest = rw t rest

planes_by_batch : (p : Analysis) (rows : List Row) → AreDistinct p (map entry_of rows) → (batch : ℕ) → planes_at (table p rows) batch ≡ planes_in rows batch
planes_by_batch p rows distinct batch = by_test (nat_lt batch (batch_count p)) refl
  where
    by_test : (lower : Bool) → nat_lt batch (batch_count p) ≡ lower → planes_at (table p rows) batch ≡ planes_in rows batch
    by_test true t =
        let lt : batch < batch_count p = grind (arith, nat_tests) in
        ap (λ o. unwrap_or o (record { danger = 0; noticed = 0 })) (table_at (batch_count p) (map entry_of rows) batch lt) ∙ found_planes rows batch
    by_test false t =
        let le : batch_count p ≤ batch = grind (arith, nat_tests) in
        let past : length (table p rows) ≤ batch = omega (arith, le, length-table (batch_count p) (map entry_of rows)) in
        ap (λ o. unwrap_or o (record { danger = 0; noticed = 0 })) (get_or_past (table p rows) batch None past)
        ∙ sym (planes_in-none rows batch (λ k d lt. omega (arith, le, rows_below rows (batch_count p) distinct.within k d lt)))

-- the table has the planes of the rows
same_planes : (p : Analysis) (rows : List Row) → AreDistinct p (map entry_of rows) → planes_at (table p rows) ≡ planes_in rows
same_planes p rows distinct = λ j batch. planes_by_batch p rows distinct batch j

-- so it chooses the same faults
pub same_faults : (p : Analysis) (rows : List Row) (held : Table) (class : Class) (faults : List ℕ) → AreDistinct p (map entry_of rows) → held ≡ table p rows
    → faults ≡ faults_in_class p (planes_at held) class → faults ≡ faults_in_class p (planes_in rows) class
same_faults p rows held class faults distinct is chosen =
    chosen ∙ ap (λ (t : Table). faults_in_class p (planes_at t) class) is ∙ ap (λ (planes : Planes). faults_in_class p planes class) (same_planes p rows distinct)

-- ---- whether each batch has a row

found_row : (rows : List Row) (batch : ℕ) → is_some (found (map entry_of rows) batch) ≡ has_row rows batch
found_row [] batch = refl
found_row (row ∷ rows) batch = by_test (row.batch == batch) refl (found_row rows batch)
  where
    by_test : (here : Bool) → (row.batch == batch) ≡ here → is_some (found (map entry_of rows) batch) ≡ has_row rows batch
        → is_some (found (map entry_of (row ∷ rows)) batch) ≡ has_row (row ∷ rows) batch
    by_test true t rest = rw t refl
    by_test false t rest = rw t rest

not_both : (b rest whole : Bool) → rest ≡ not whole → (not b || rest) ≡ not (b && whole)
not_both true rest whole e = e
not_both false rest whole e = refl

all_or_any : {X : Type 0} (test : X → Bool) (xs : List X) → list_any (λ x. not (test x)) xs ≡ not (list_all test xs)
all_or_any test [] = refl
all_or_any test (x ∷ xs) = not_both (test x) (list_any (λ y. not (test y)) xs) (list_all test xs) (all_or_any test xs)

-- some batch has no row, where the table isn't whole
lacking_is : (p : Analysis) (rows : List Row) → list_any (λ batch. not (has_row rows batch)) (below (batch_count p)) ≡ not (list_all is_some (table p rows))
lacking_is p rows =
    let same : (λ (batch : ℕ). not (has_row rows batch)) ≡ (λ batch. not (is_some (found (map entry_of rows) batch))) = λ j batch. not (sym (found_row rows batch) j) in
    ap (λ test. list_any test (below (batch_count p))) same
    ∙ all_or_any (λ batch. is_some (found (map entry_of rows) batch)) (below (batch_count p))
    ∙ ap not (sym (list_all-map is_some (found (map entry_of rows)) (below (batch_count p))))

-- ---- the faults of a class, one more at a time

-- the faults below n that pass
abbrev pub first_passing : (ℕ → Bool) → ℕ → List ℕ
first_passing test n = filter test (below n)

pub none_passing : (test : ℕ → Bool) (faults : List ℕ) → faults ≡ [] → faults ≡ first_passing test 0
unfolding below
none_passing test faults e = e

passing_more : (test : ℕ → Bool) (n : ℕ) → first_passing test (n + 1) ≡ first_passing test n ++ cond (test n) (n ∷ []) []
passing_more test n =
    let more : n + 1 ≡ suc n = omega arith in
    ap (first_passing test) more ∙ ap (filter test) (below_push n) ∙ filter-append test (below n) (n ∷ [])

pub one_passes : (test : ℕ → Bool) (n : ℕ) (faults now : List ℕ) → faults ≡ first_passing test n → test n ≡ true → now ≡ faults ++ n ∷ [] → now ≡ first_passing test (n + 1)
one_passes test n faults now e t pushed =
    pushed ∙ ap (λ l. l ++ n ∷ []) e ∙ sym (passing_more test n ∙ ap (λ (b : Bool). first_passing test n ++ cond b (n ∷ []) []) t)

pub one_fails : (test : ℕ → Bool) (n : ℕ) (faults now : List ℕ) → faults ≡ first_passing test n → test n ≡ false → now ≡ faults → now ≡ first_passing test (n + 1)
one_fails test n faults now e t same =
    same ∙ e ∙ sym (passing_more test n ∙ ap (λ (b : Bool). first_passing test n ++ cond b (n ∷ []) []) t ∙ append-nil (first_passing test n))

-- there are at most n of them
pub few_passing : (test : ℕ → Bool) (n : ℕ) → length (first_passing test n) ≤ n
unfolding below
few_passing test n = omega (arith, length-filter test (below n), count_by-le-length test (below n), length-range_with_len 0 n)

-- ---- rows of distinct batches are few

length-batches : (rows : List Row) → length (batches (map entry_of rows)) ≡ length rows
length-batches [] = refl
length-batches (row ∷ rows) = ap suc (length-batches rows)

pub few_rows : (p : Analysis) (rows : List Row) → AreDistinct p (map entry_of rows) → length rows ≤ batch_count p
few_rows p rows distinct =
    let le = once_le (batches (map entry_of rows)) (batch_count p) (λ k. 1) distinct.within distinct.once in
    omega (arith, le, sum_by-ones (batches (map entry_of rows)), sum_up-ones (batch_count p), length-batches rows)

-- ---- the cases

pub says_incomplete : (p : Analysis) (rows : List Row) (held : Table) → held ≡ table p rows → list_all is_some held ≡ false
    → pairs_by_rows p rows ≡ Err (Incomplete (length rows) (batch_count p))
unfolding pair_refusal
says_incomplete p rows held is lacks =
    let lacking : list_any (λ batch. not (has_row rows batch)) (below (batch_count p)) ≡ true =
    lacking_is p rows ∙ ap not (ap (list_all is_some) (sym is) ∙ lacks) in
    rw lacking refl

none_lacking : (p : Analysis) (rows : List Row) (held : Table) → held ≡ table p rows → list_all is_some held ≡ true
    → list_any (λ batch. not (has_row rows batch)) (below (batch_count p)) ≡ false
none_lacking p rows held is whole = lacking_is p rows ∙ ap not (ap (list_all is_some) (sym is) ∙ whole)

-- how many pairs these lists make
count_of : (p : Analysis) (rows : List Row) (latent detected : List ℕ) → latent ≡ faults_in_class p (planes_in rows) Latent
    → detected ≡ faults_in_class p (planes_in rows) Detected → pair_count (chosen p (planes_in rows)) ≡ length latent * length detected
count_of p rows latent detected l d = count_is (chosen p (planes_in rows)) ∙ ap₂ (λ (a b : List ℕ). length a * length b) (sym l) (sym d)

pub says_many : (p : Analysis) (rows : List Row) (held : Table) (latent detected : List ℕ) → held ≡ table p rows → list_all is_some held ≡ true
    → latent ≡ faults_in_class p (planes_in rows) Latent → detected ≡ faults_in_class p (planes_in rows) Detected → 2 ^ 20 < length latent * length detected
    → pairs_by_rows p rows ≡ Err TooMany
unfolding pair_refusal
says_many p rows held latent detected is whole l d many =
    let none = none_lacking p rows held is whole in
    let count = count_of p rows latent detected l d in
    let more : nat_lt (2 ^ 20) (pair_count (chosen p (planes_in rows))) ≡ true = grind (arith, nat_tests, count) in
    rw (none, more) refl

pub says_pairs : (p : Analysis) (rows : List Row) (held : Table) (latent detected : List ℕ) → held ≡ table p rows → list_all is_some held ≡ true
    → latent ≡ faults_in_class p (planes_in rows) Latent → detected ≡ faults_in_class p (planes_in rows) Detected → length latent * length detected ≤ 2 ^ 20
    → pairs_by_rows p rows ≡ Ok (record { latent = latent; detected = detected })
unfolding pair_refusal
says_pairs p rows held latent detected is whole l d few =
    let none = none_lacking p rows held is whole in
    let count = count_of p rows latent detected l d in
    let less : nat_lt (2 ^ 20) (pair_count (chosen p (planes_in rows))) ≡ false = grind (arith, nat_tests, count) in
    rw (none, less) (λ j. Ok (record { latent = sym l j; detected = sym d j }))
