-- Rows by the weights of a plan, one after the other.
use Rattle.std.proofs.Common.{◌≡◌, ◌∙◌, ap, sym, subst, arith, ℕ, zero, suc, ◌+◌, ◌<◌, List, [], ◌∷◌, ◌++◌, length, map, take, get_or}
use Rattle.std.specs.Prelude.{All}
use Rattle.std.proofs.lemmas.List.{get_or-map, length-map, take-map, take_all, take_more}
use Rattle.std.proofs.lemmas.List.Elements.{All-take}
use Rattle.fm_base.specs.Lists.{below}
use Rattle.fm_base.specs.Once.{Lacks, IsOnce}
use Rattle.metric_sums.specs.declared.Sums.{Sums}
use Rattle.metric_sums.specs.Totals.{plus, no_sums, AreSmall}
use Rattle.campaign_plan.specs.Analysis.{Analysis, batch_count}
use Rattle.campaign_plan.specs.Batches.{Entry, batches, own_sums, total, AreDistinct}
use Rattle.campaign_plan.specs.Kept.{IsPlan}
use Rattle.campaign_plan.proofs.Running.{total_push}
use Rattle.campaign_plan.proofs.Small.{small_sums}
use Rattle.result_file.specs.declared.Row.{Row}
use Rattle.result_file.specs.ResultText.{row_of, result_rows}
use Rattle.result_file.specs.KeptRows.{entry_of}
use Rattle.result_file.proofs.Appending.{rows_push}
use Rattle.result_reweigh.specs.Reweighed.{reweighed}

-- ---- the first of distinct batches

lacks_first : (xs : List ℕ) (x m : ℕ) → Lacks xs x → Lacks (take m xs) x
lacks_first xs x zero h = tt
lacks_first [] x (suc m) h = tt
lacks_first (y ∷ xs) x (suc m) h = (h.0, lacks_first xs x m h.1)

once_first : (xs : List ℕ) (m : ℕ) → IsOnce xs → IsOnce (take m xs)
once_first xs zero h = tt
once_first [] (suc m) h = tt
once_first (x ∷ xs) (suc m) h = (lacks_first xs x m h.0, once_first xs m h.1)

distinct_first : (p : Analysis) (entries : List Entry) (m : ℕ) → AreDistinct p entries → AreDistinct p (take m entries)
distinct_first p entries m h =
    let same : take m (batches entries) ≡ batches (take m entries) = take-map (λ (entry : Entry). entry.0) m entries in
    record {
      within = subst (All (λ batch. batch < batch_count p)) same (All-take (λ batch. batch < batch_count p) m (batches entries) h.within);
      once = subst IsOnce same (once_first (batches entries) m h.once);
    }

-- ---- the rows so far, and their sums

module _ (p : Analysis) (rows : List Row) where
  abbrev entries : List Entry
  entries = map entry_of rows

  -- the first k rows by the weights of the plan, and the sums over them
  pub record AreFirst (k : ℕ) (made : List Row) (sums : Sums) : Type 0 where
    pub rows_are : made ≡ result_rows p (take k entries)
    pub sums_are : sums ≡ total p (take k entries)

  pub none_yet : (made : List Row) (sums : Sums) → made ≡ [] → sums ≡ no_sums → AreFirst 0 made sums
  unfolding below result_rows
  none_yet made sums e f = record { rows_are = e; sums_are = f }

  module _ (k : ℕ) (d : Row) (lt : k < length rows) where
    abbrev row : Row
    row = get_or rows k d

    grown : take (k + 1) entries ≡ take k entries ++ entry_of row ∷ []
    grown =
        let below_ : k < length entries = omega (arith, lt, length-map rows entry_of) in
        take_more entries k (entry_of d) below_ ∙ ap (λ entry. take k entries ++ entry ∷ []) (get_or-map entry_of rows k d (entry_of d) lt)

    pub row_within : AreDistinct p entries → row.batch < batch_count p
    row_within distinct =
        let below_ : k < length (batches entries) = omega (arith, lt, length-map rows entry_of, length-map entries (λ (entry : Entry). entry.0)) in
        let found = get_or-map (λ (entry : Entry). entry.0) entries k (entry_of d) d.batch (omega (arith, lt, length-map rows entry_of))
        ∙ ap (λ (entry : Entry). entry.0) (get_or-map entry_of rows k d (entry_of d) lt) in
        subst (λ batch. batch < batch_count p) found (distinct.within k d.batch below_)

    module _ (made : List Row) (sums own : Sums) (far : AreFirst k made sums) (is : own ≡ own_sums p row.batch (entry_of row).1) where
      total_is : plus sums own ≡ total p (take (k + 1) entries)
      total_is =
          ap (λ s. plus s own) far.sums_are ∙ ap (plus (total p (take k entries))) is ∙ sym (total_push p (take k entries) (entry_of row))
          ∙ ap (total p) (sym grown)

      pub sums_small : IsPlan p → AreDistinct p entries → AreSmall (plus sums own)
      sums_small plan distinct = subst AreSmall (sym total_is) (small_sums p plan (take (k + 1) entries) (distinct_first p entries (k + 1) distinct))

      pub one_more : (now : List Row) (more : Sums) → more ≡ plus sums own → now ≡ made ++ row_of (entry_of row) more ∷ [] → AreFirst (k + 1) now more
      one_more now more added pushed =
          let all : more ≡ total p (take k entries ++ entry_of row ∷ []) = added ∙ total_is ∙ ap (total p) grown in
          record {
            rows_are = pushed ∙ ap (λ rs. rs ++ row_of (entry_of row) more ∷ []) far.rows_are ∙ ap (λ s. result_rows p (take k entries) ++ row_of (entry_of row) s ∷ []) all
                ∙ sym (rows_push p (take k entries) (entry_of row)) ∙ ap (result_rows p) (sym grown);
            sums_are = all ∙ ap (total p) (sym grown);
          }

  -- the last row was reached
  pub all_made : (k : ℕ) (made : List Row) (sums : Sums) → AreFirst k made sums → k ≡ length rows → made ≡ reweighed p rows
  all_made k made sums far end =
      far.rows_are ∙ ap (result_rows p) (take_all k entries (omega (arith, end, length-map rows entry_of)))
