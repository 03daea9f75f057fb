-- The rows that a campaign goes on from are rows of its board.
use Rattle.std.proofs.Common.{◌≡◌, ◌≢◌, ℕ, zero, suc, ◌+◌, ◌*◌, ◌<◌, ◌⊎◌, inl, inr, true, false, List, [], ◌∷◌, map, length, take, get_or, refl, ap, sym, subst, ◌∙◌, arith, length-append}
use Rattle.std.specs.Prelude.{All, Some, find, ◌==◌, flat_map, sum_by, unwrap_or, option_map}
use Rattle.std.proofs.lemmas.List.{length-map, get_or-map, take-map}
use Rattle.std.proofs.lemmas.List.Elements.{All-head, All-tail, All-take}
use Rattle.std.proofs.lemmas.List.Sums.{sum_by-cons}
use Rattle.metric_sums.specs.declared.Sums.{Sums}
use Rattle.metric_sums.specs.Totals.{sums_by}
use Rattle.fm_shelf.specs.Content.{Content, Unknown, Absent, Held, IsIfKnown, HasIfKnown, bytes_of}
use Rattle.fm_base.specs.Once.{Lacks, IsOnce}
use Rattle.campaign_plan.specs.declared.Outcome.{Outcome}
use Rattle.campaign_plan.specs.Analysis.{Analysis, batch_count}
use Rattle.campaign_plan.specs.Batches.{Entry, batches, own_sums, total, true_planes}
use Rattle.result_file.specs.declared.Row.{Row}
use Rattle.result_file.specs.declared.KeptRows.{KeptRows}
use Rattle.result_file.specs.KeptRows.{entry_of as planed}
use Rattle.result_file.specs.ResultText.{row_text}
use Rattle.result_file.proofs.Whole.{no_row, length-rows}
use Rattle.campaign_board.specs.declared.entry.Entry.{Entry as BoardEntry}
use Rattle.campaign_board.specs.Boards.{Start, board_entry, batches_of, sums_over, row_with, file_text}
use Rattle.campaign_board.specs.Kept.{AreRows, AreKeptBytes}
use Rattle.campaign_run.specs.Found.{checkpointed_or_true}
use Rattle.campaign_run.specs.Starting.{StartsFrom}
use Rattle.campaign_run.specs.Origins.{entry_with, entries_for}
use Rattle.campaign_run.proofs.Entries.{sums_by-map, length_entries, entry_at}
use Rattle.campaign_run.proofs.KeptRows.{AreKept, kept_is, nothing_kept}
use Rattle.fm_shelf.proofs.Changes.{take-nil}

-- ---- rows of distinct batches, and the sums over them

pub same_batches : (rows : List Row) → batches (map planed rows) ≡ batches_of rows
same_batches [] = refl
same_batches (row ∷ rows) = ap (λ bs. row.batch ∷ bs) (same_batches rows)

lacks_at : (rows : List Row) (batch : ℕ) → Lacks (batches_of rows) batch → (k : ℕ) (d : Row) → k < length rows → (get_or rows k d).batch ≢ batch
lacks_at [] batch lacks k d lt = absurd (omega (arith, lt))
lacks_at (row ∷ rows) batch lacks zero d lt = lacks.0
lacks_at (row ∷ rows) batch lacks (suc k) d lt = lacks_at rows batch lacks.1 k d (omega (arith, lt))

-- the row of a batch is found
find_row : (rows : List Row) → IsOnce (batches_of rows) → (k : ℕ) (d : Row) → k < length rows
    → find (λ (entry : Entry). entry.0 == (get_or rows k d).batch) (map planed rows) ≡ Some (planed (get_or rows k d))
find_row [] once k d lt = absurd (omega (arith, lt))
find_row (row ∷ rows) once zero d lt = let same : (row.batch == row.batch) ≡ true = grind arith in rw same refl
find_row (row ∷ rows) once (suc k) d lt =
    let lower : k < length rows = omega (arith, lt) in
    let other = lacks_at rows row.batch once.0 k d lower in
    let apart : (row.batch == (get_or rows k d).batch) ≡ false = grind (arith, other) in
    rw apart (find_row rows once.1 k d lower)

found_kept : (p : Analysis) (k : KeptRows) → IsOnce (batches_of k.rows) → (i : ℕ) (d : Row) → i < length k.rows
    → checkpointed_or_true p k (get_or k.rows i d).batch ≡ (planed (get_or k.rows i d)).1
found_kept p k once i d lt =
    ap (λ o. unwrap_or (option_map (λ (entry : Entry). entry.1) o) (true_planes p (get_or k.rows i d).batch)) (find_row k.rows once i d lt)

sum_by-same : {X : Type 0} (f g : X → ℕ) (xs : List X) → All (λ x. f x ≡ g x) xs → sum_by f xs ≡ sum_by g xs
sum_by-same f g [] same = refl
sum_by-same f g (x ∷ xs) same =
    let here = All-head (λ y. f y ≡ g y) x xs same in
    omega (arith, sum_by-cons f x xs, sum_by-cons g x xs, here, sum_by-same f g xs (All-tail (λ y. f y ≡ g y) x xs same))

sums_by-same : {X : Type 0} (f g : X → Sums) (xs : List X) → All (λ x. f x ≡ g x) xs → sums_by f xs ≡ sums_by g xs
sums_by-same f g xs same = λ i. record {
  permanent_all = sum_by-same (λ x. (f x).permanent_all) (λ x. (g x).permanent_all) xs (λ k d lt. ap (λ (s : Sums). s.permanent_all) (same k d lt)) i;
  permanent_danger = sum_by-same (λ x. (f x).permanent_danger) (λ x. (g x).permanent_danger) xs (λ k d lt. ap (λ (s : Sums). s.permanent_danger) (same k d lt)) i;
  latent = sum_by-same (λ x. (f x).latent) (λ x. (g x).latent) xs (λ k d lt. ap (λ (s : Sums). s.latent) (same k d lt)) i;
  transient_all = sum_by-same (λ x. (f x).transient_all) (λ x. (g x).transient_all) xs (λ k d lt. ap (λ (s : Sums). s.transient_all) (same k d lt)) i;
  transient_danger = sum_by-same (λ x. (f x).transient_danger) (λ x. (g x).transient_danger) xs (λ k d lt. ap (λ (s : Sums). s.transient_danger) (same k d lt)) i;
}

-- each row that is kept has the entry of its batch
entry_kept : (p : Analysis) (k : KeptRows) → AreKept p k.rows → (i : ℕ) (d : Row) → i < length k.rows
    → board_entry (entries_for p (checkpointed_or_true p k)) (get_or k.rows i d).batch
    ≡ record {
      batch = (get_or k.rows i d).batch;
      danger = (get_or k.rows i d).danger;
      noticed = (get_or k.rows i d).noticed;
      own = own_sums p (get_or k.rows i d).batch (planed (get_or k.rows i d)).1;
    }
entry_kept p k h i d lt =
    let row : Row = get_or k.rows i d in
    let once : IsOnce (batches_of k.rows) = subst IsOnce (same_batches k.rows) h.distinct.once in
    let all : All (λ batch. batch < batch_count p) (batches_of k.rows) = subst (All (λ batch. batch < batch_count p)) (same_batches k.rows) h.distinct.within in
    let within : row.batch < batch_count p =
    subst (λ batch. batch < batch_count p) (get_or-map (λ (r : Row). r.batch) k.rows i d 0 lt) (all i 0 (omega (arith, lt, length-map k.rows (λ (r : Row). r.batch)))) in
    entry_at p (checkpointed_or_true p k) row.batch within
    ∙ ap (λ (planes : Outcome). entry_with p (λ _. planes) row.batch) (found_kept p k once i d lt)

-- THE ROWS THAT ARE KEPT ARE ROWS OF THE BOARD
pub kept_rows_due : (p : Analysis) (k : KeptRows) (o : Start) → o.entries ≡ entries_for p (checkpointed_or_true p k) → ((batch : ℕ) → o.takes batch ≡ true) → AreKept p k.rows
    → AreRows o k.rows
kept_rows_due p k o e takes h =
    let entries : List BoardEntry = entries_for p (checkpointed_or_true p k) in
    let many = length-map k.rows (λ (r : Row). r.batch) in
    let own : All (λ (row : Row). (board_entry entries row.batch).own ≡ own_sums p (planed row).0 (planed row).1) k.rows =
    λ i d lt. ap (λ (entry : BoardEntry). entry.own) (entry_kept p k h i d lt) in
    let sums : (i : ℕ) → sums_over entries (take i (batches_of k.rows)) ≡ total p (map planed (take i k.rows)) =
    λ i. (
    ap (sums_over entries) (take-map (λ (r : Row). r.batch) i k.rows)
    ∙ sums_by-map (λ batch. (board_entry entries batch).own) (λ (r : Row). r.batch) (take i k.rows)
    ∙ sums_by-same (λ (r : Row). (board_entry entries r.batch).own) (λ (r : Row). own_sums p (planed r).0 (planed r).1) (take i k.rows)
    (All-take (λ (row : Row). (board_entry entries row.batch).own ≡ own_sums p (planed row).0 (planed row).1) i k.rows own)
    ∙ sym (sums_by-map (λ (entry : Entry). own_sums p entry.0 entry.1) planed (take i k.rows))) in
    record {
      due = λ i lt. (
          let row : Row = get_or k.rows i no_row in
          let batch : get_or (batches_of k.rows) i 0 ≡ row.batch = get_or-map (λ (r : Row). r.batch) k.rows i no_row 0 lt in
          ap (λ s. row_with (record { batch = row.batch; danger = row.danger; noticed = row.noticed; own = own_sums p row.batch (planed row).1 }) s)
          (h.summed i lt ∙ sym (sums (i + 1)))
          ∙ ap (λ entry. row_with entry (sums_over entries (take (i + 1) (batches_of k.rows)))) (sym (entry_kept p k h i no_row lt))
          ∙ ap (λ b. row_with (board_entry entries b) (sums_over entries (take (i + 1) (batches_of k.rows)))) (sym batch)
          ∙ ap (λ (es : List BoardEntry). row_with (board_entry es (get_or (batches_of k.rows) i 0)) (sums_over es (take (i + 1) (batches_of k.rows)))) (sym e));
      once = subst IsOnce (same_batches k.rows) h.distinct.once;
      within = λ i d lt. (
          let all = subst (All (λ batch. batch < batch_count p)) (same_batches k.rows) h.distinct.within i d lt in
          omega (arith, all, ap length e, length_entries p (checkpointed_or_true p k)));
      own = λ i d lt. takes (get_or (batches_of k.rows) i d);
    }

-- ---- what a campaign starts from

is_where_has : (held : Content) (bytes : List ℕ) (P : List ℕ → Type 0) → HasIfKnown held bytes → P bytes → IsIfKnown held P
is_where_has Unknown bytes P has h = tt
is_where_has Absent bytes P has h = absurd has
is_where_has (Held now) bytes P has h = subst P (sym has) h

bytes_held : (held : Content) (bytes : List ℕ) → HasIfKnown held bytes → (bytes_of held ≡ []) ⊎ (bytes_of held ≡ bytes)
bytes_held Unknown bytes has = inl refl
bytes_held Absent bytes has = absurd has
bytes_held (Held now) bytes has = inr has

pub starts_kept : (own : List ℕ) (p : Analysis) (held : Content) (k : KeptRows) → length own ≡ 89 → StartsFrom own p held k → AreKept p k.rows
starts_kept own p held k many start = elim start as (λ _. AreKept p k.rows) [
  | inl none ↦ subst (λ (j : KeptRows). AreKept p j.rows) (sym none) (nothing_kept p)
  | inr from ↦ (kept_is own p from.0 k many from.2).rows
]

-- the length of a header and rows
length_file : (own : List ℕ) (rows : List Row) → length own ≡ 89 → length (file_text own rows) ≡ 89 + 130 * length rows
length_file own rows many = length-append own (flat_map row_text rows) ∙ omega (arith, many, length-rows rows)

pub starts_whole : (own : List ℕ) (p : Analysis) (held : Content) (k : KeptRows) (o : Start) → length own ≡ 89 → StartsFrom own p held k → o.header ≡ own
    → AreKeptBytes o k.rows k.whole held
starts_whole own p held k o many start e = elim start as (λ _. AreKeptBytes o k.rows k.whole held) [
  | inl none ↦ inl (ap (λ (j : KeptRows). j.whole) none, ap (λ (j : KeptRows). j.rows) none)
  | inr from ↦
      elim ((kept_is own p from.0 k many from.2).whole) as (λ _. AreKeptBytes o k.rows k.whole held) [
        | inl none ↦ inl (ap (λ (j : KeptRows). j.whole) none, ap (λ (j : KeptRows). j.rows) none)
        | inr some ↦ inr (
          some.0,
          is_where_has held from.0 (λ bytes. take k.whole bytes ≡ file_text o.header k.rows) from.1 (some.1 ∙ ap (λ h. file_text h k.rows) (sym e)),
          some.0 ∙ sym (length_file o.header k.rows (ap length e ∙ many)),
        )
      ]
]

-- the bytes that are kept of the file are none, or the header and the rows that are kept
pub starts_text : (own : List ℕ) (p : Analysis) (held : Content) (k : KeptRows) → length own ≡ 89 → StartsFrom own p held k
    → (take k.whole (bytes_of held) ≡ []) ⊎ (take k.whole (bytes_of held) ≡ file_text own k.rows)
starts_text own p held k many start = elim start as (λ _. (take k.whole (bytes_of held) ≡ []) ⊎ (take k.whole (bytes_of held) ≡ file_text own k.rows)) [
  | inl none ↦ inl (ap (λ (j : KeptRows). take j.whole (bytes_of held)) none)
  | inr from ↦
      elim (bytes_held held from.0 from.1) as (λ _. (take k.whole (bytes_of held) ≡ []) ⊎ (take k.whole (bytes_of held) ≡ file_text own k.rows)) [
        | inl e ↦ inl (ap (take k.whole) e ∙ take-nil k.whole)
        | inr e ↦
            elim ((kept_is own p from.0 k many from.2).whole) as (λ _. (take k.whole (bytes_of held) ≡ []) ⊎ (take k.whole (bytes_of held) ≡ file_text own k.rows)) [
              | inl none ↦ inl (ap (λ (j : KeptRows). take j.whole (bytes_of held)) none)
              | inr some ↦ inr (ap (take k.whole) e ∙ some.1)
            ]
      ]
]
