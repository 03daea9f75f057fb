-- A board whose workers have ended, and that hasn't failed, is a whole campaign's.
use Rattle.std.proofs.Common.{◌≡◌, ◌≢◌, ℕ, ◌<◌, ◌≤◌, Bool, true, false, List, [], ◌∷◌, ◌++◌, map, length, take, get_or, refl, ap, sym, subst, ◌∙◌, arith}
use Rattle.std.specs.Prelude.{All, Contains, nat_lt}
use Rattle.std.proofs.lemmas.List.{map-append, get_or_default, length-map}
use Rattle.std.proofs.lemmas.List.Elements.{All-map, All-head, All-tail}
use Rattle.std.proofs.Math.Seq.{take-append_seam}
use mathlib.Core.List.{IsPrefix}
use Rattle.fm_base.specs.Once.{Lacks, IsOnce}
use Rattle.campaign_plan.specs.declared.Outcome.{Outcome}
use Rattle.campaign_plan.specs.Analysis.{Analysis, batch_count}
use Rattle.campaign_plan.specs.Batches.{Entry, AreDistinct}
use Rattle.result_file.specs.declared.Row.{Row}
use Rattle.result_file.specs.declared.KeptRows.{KeptRows}
use Rattle.result_file.specs.ResultText.{result_text}
use Rattle.result_file.specs.KeptRows.{entry_of as planed}
use Rattle.result_file.proofs.Whole.{no_row}
use Rattle.result_file.specs.RowPlanes.{HoldEachOnce, planes_in}
use Rattle.result_file.proofs.RowPlanes.{row_found, rows_below, planes_in-at, planes_in-none}
use Rattle.result_file.proofs.TrueRows.{past_planes}
use Rattle.campaign_board.specs.declared.entry.Entry.{Entry as BoardEntry}
use Rattle.campaign_board.specs.Boards.{Start, AreEntries, board_entry, batches_of, row_with, file_text}
use Rattle.campaign_board.specs.Kept.{AreRows}
use Rattle.campaign_board.proofs.Results.{boards_are_results}
use Rattle.campaign_run.specs.declared.run.Text.{Text}
use Rattle.campaign_run.specs.Found.{checkpointed_or_true, IsPart}
use Rattle.campaign_run.specs.Reported.{BeginsWith}
use Rattle.campaign_run.specs.Origins.{entry_with, entries_for}
use Rattle.campaign_run.specs.Ran.{text_for}
use Rattle.campaign_run.specs.Steps.{HaveAll}
use Rattle.campaign_run.proofs.Entries.{length_entries, entry_at, have_own}
use Rattle.campaign_run.proofs.Keeping.{same_batches}
use Rattle.campaign_run.proofs.Finding.{found_true}

-- the rows of a board over so many entries as the plan has batches
distinct_rows : (p : Analysis) (o : Start) (rows : List Row) → length o.entries ≡ batch_count p → AreRows o rows → AreDistinct p (map planed rows)
distinct_rows p o rows many h = record {
  within = subst (All (λ batch. batch < batch_count p)) (sym (same_batches rows)) (subst (λ n. All (λ batch. batch < n) (batches_of rows)) many h.within);
  once = subst IsOnce (sym (same_batches rows)) h.once;
}

pub hold_each : (p : Analysis) (o : Start) (rows : List Row) → length o.entries ≡ batch_count p → AreRows o rows → HaveAll o rows → HoldEachOnce p rows
hold_each p o rows many h each = record {
  distinct = distinct_rows p o rows many h;
  each = λ batch lt. subst (λ bs. Contains bs batch) (sym (same_batches rows)) (each batch (omega (arith, lt, many)));
}

-- each row has the planes of its batch
planes_at_row : (p : Analysis) (planes : ℕ → Outcome) (o : Start) (rows : List Row) → o.entries ≡ entries_for p planes → AreRows o rows
    → All (λ (row : Row). (planed row).1 ≡ planes (planed row).0) rows
planes_at_row p planes o rows e h i d lt =
    let row : Row = get_or rows i no_row in
    let many = length-map rows (λ (r : Row). r.batch) in
    let batch : ℕ = get_or (batches_of rows) i 0 in
    let lower : batch < batch_count p = (let within = h.within i 0 (omega (arith, lt, many)) in omega (arith, within, ap length e, length_entries p planes)) in
    let entry : board_entry o.entries batch ≡ entry_with p planes batch = ap (λ es. board_entry es batch) e ∙ entry_at p planes batch lower in
    let due = h.due i lt in
    let here : row.batch ≡ batch = ap (λ (r : Row). r.batch) due ∙ ap (λ (e : BoardEntry). e.batch) entry in
    let found : (planed row).1 ≡ planes batch = ap (λ (r : Row). (planed r).1) due ∙ ap (λ (e : BoardEntry). (planed (row_with e row.sums)).1) entry in
    let same : get_or rows i d ≡ row = get_or_default rows i d no_row lt in
    subst (λ (r : Row). (planed r).1 ≡ planes (planed r).0) (sym same) (found ∙ ap planes (sym here))

pub are_part : (p : Analysis) (planes : ℕ → Outcome) (o : Start) (rows : List Row) → o.entries ≡ entries_for p planes → AreRows o rows → IsPart p planes (map planed rows)
are_part p planes o rows e h = record {
  distinct = distinct_rows p o rows (ap length e ∙ length_entries p planes) h;
  have = All-map (λ (entry : Entry). entry.1 ≡ planes entry.0) planed rows (planes_at_row p planes o rows e h);
}

-- ---- the report

-- a batch that the plan lacks was not kept
lacks_past : (rows : List Row) (n batch : ℕ) → All (λ b. b < n) (batches_of rows) → n ≤ batch → Lacks (batches_of rows) batch
lacks_past [] n batch all le = tt
lacks_past (row ∷ rows) n batch all le =
    let P : ℕ → Type 0 = λ b. b < n in
    let here = All-head P row.batch (batches_of rows) all in
    let apart : row.batch ≢ batch = omega (arith, here, le) in
    (apart, lacks_past rows n batch (All-tail P row.batch (batches_of rows) all) le)

-- the planes of the rows are those that the campaign finds
planes_same : (p : Analysis) (k : KeptRows) (rows : List Row) → All (λ b. b < batch_count p) (batches_of k.rows) → HoldEachOnce p rows
    → All (λ (row : Row). (planed row).1 ≡ checkpointed_or_true p k (planed row).0) rows → (batch : ℕ) → planes_in rows batch ≡ checkpointed_or_true p k batch
planes_same p k rows within hold have batch = by_cases (nat_lt batch (batch_count p)) refl
  where
    by_cases : (b : Bool) → nat_lt batch (batch_count p) ≡ b → planes_in rows batch ≡ checkpointed_or_true p k batch
    by_cases true e =
        let lt : batch < batch_count p = grind (arith, e) in
        let there = hold.each batch lt in
        let found = row_found rows there.0 batch there.1 there.2 in
        let same : (get_or rows there.0 no_row).batch ≡ batch = found.1 no_row in
        ap (planes_in rows) (sym same) ∙ planes_in-at rows hold.distinct.once there.0 no_row found.0
        ∙ have there.0 no_row found.0 ∙ ap (checkpointed_or_true p k) same
    by_cases false e =
        let past : batch_count p ≤ batch = grind (arith, e) in
        planes_in-none rows batch (λ i d lt. omega (arith, past, rows_below rows (batch_count p) hold.distinct.within i d lt))
        ∙ sym (found_true p k batch (lacks_past k.rows (batch_count p) batch within past) ∙ past_planes p batch past)

pub text_same : (text : Text) (p : Analysis) (k : KeptRows) (o : Start) (rows : List Row) → o.entries ≡ entries_for p (checkpointed_or_true p k)
    → All (λ b. b < batch_count p) (batches_of k.rows) → AreRows o rows → HoldEachOnce p rows → text_for text p (planes_in rows) ≡ text_for text p (checkpointed_or_true p k)
text_same text p k o rows e within h hold =
    let all : planes_in rows ≡ checkpointed_or_true p k = λ j batch. planes_same p k rows within hold (planes_at_row p (checkpointed_or_true p k) o rows e h) batch j in
    ap (text_for text p) all

-- ---- the result file

pub text_result : (p : Analysis) (planes : ℕ → Outcome) (o : Start) (rows : List Row) → o.entries ≡ entries_for p planes → AreEntries o.entries → AreRows o rows
    → file_text o.header rows ≡ result_text o.header p (map planed rows)
text_result p planes o rows e are h = (boards_are_results p o rows are (have_own p planes o e) h).text_is

pub begin_kept : (k rows : List Row) → IsPrefix k rows → BeginsWith (map planed rows) (map planed k)
begin_kept k rows pre =
    let split : map planed rows ≡ map planed k ++ map planed pre.0 = ap (map planed) (sym pre.1) ∙ map-append planed k pre.0 in
    ap (take (length (map planed k))) split ∙ take-append_seam (map planed k) (map planed pre.0)
