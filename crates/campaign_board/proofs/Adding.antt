-- A board gets one more row, or fails.
use Rattle.std.proofs.Common.{◌≡◌, ◌⊎◌, inl, inr, true, ℕ, ◌+◌, ◌<◌, ◌≤◌, List, [], ◌∷◌, ◌++◌, length, take, get_or, ap, sym, subst, ◌∙◌, arith, length-append, append_assoc, append-nil}
use Rattle.std.specs.Prelude.{flat_map}
use Rattle.std.specs.List.{All, sum_by}
use Rattle.std.proofs.lemmas.List.{map-append, take-append-le, take_all, length-map}
use Rattle.std.proofs.lemmas.List.Concat.{flat_map-append}
use Rattle.std.proofs.lemmas.List.Elements.{All-push}
use Rattle.std.proofs.lemmas.List.Sums.{sum_by_push}
use Rattle.std.proofs.Math.ListN.{get_or-append}
use Rattle.std.proofs.Math.Seq.{get_or-append_seam}
use Rattle.metric_sums.specs.Totals.{plus, AreSmall}
use Rattle.result_file.specs.declared.Row.{Row}
use Rattle.result_file.specs.ResultText.{row_text}
use Rattle.campaign_board.specs.declared.entry.Entry.{Entry}
use Rattle.fm_base.specs.Once.{Lacks, IsOnce}
use Rattle.campaign_board.specs.Boards.{Start, AreEntries, board_entry, batches_of, sums_over, row_with, row_due, next_row, row_at_place, file_text}
use Rattle.campaign_board.specs.Kept.{AreRows}
use Rattle.fm_base.proofs.SumsBelow.{once_le, once_few, sum_up-list}
use Rattle.fm_base.proofs.OnceLists.{once_push}

-- the sums over distinct batches are small
pub small_over : (entries : List Entry) (batches : List ℕ) → AreEntries entries → All (λ b. b < length entries) batches → IsOnce batches → AreSmall (sums_over entries batches)
small_over entries batches are within once =
    let d : Entry = board_entry [] 0 in
    let le : (f : Entry → ℕ) → sum_by (λ b. f (board_entry entries b)) batches ≤ sum_by f entries =
    λ f. (let most = once_le batches (length entries) (λ b. f (board_entry entries b)) within once in omega (arith, most, sum_up-list f d entries)) in
    let s = are.small in
    record {
      permanent_all = let a = le (λ e. e.own.permanent_all) in let b = s.permanent_all in omega (arith, a, b);
      permanent_danger = let a = le (λ e. e.own.permanent_danger) in let b = s.permanent_danger in omega (arith, a, b);
      latent = let a = le (λ e. e.own.latent) in let b = s.latent in omega (arith, a, b);
      transient_all = let a = le (λ e. e.own.transient_all) in let b = s.transient_all in omega (arith, a, b);
      transient_danger = let a = le (λ e. e.own.transient_danger) in let b = s.transient_danger in omega (arith, a, b);
    }

pub sums_push : (entries : List Entry) (batches : List ℕ) (batch : ℕ) → sums_over entries (batches ++ batch ∷ []) ≡ plus (sums_over entries batches) (board_entry entries batch).own
sums_push entries batches batch = λ i. record {
  permanent_all = sum_by_push (λ b. (board_entry entries b).own.permanent_all) batches batch i;
  permanent_danger = sum_by_push (λ b. (board_entry entries b).own.permanent_danger) batches batch i;
  latent = sum_by_push (λ b. (board_entry entries b).own.latent) batches batch i;
  transient_all = sum_by_push (λ b. (board_entry entries b).own.transient_all) batches batch i;
  transient_danger = sum_by_push (λ b. (board_entry entries b).own.transient_danger) batches batch i;
}

-- the batch of the row that comes next, and the batches then
pub batches_push : (o : Start) (rows : List Row) (batch : ℕ) → AreEntries o.entries → batch < length o.entries
    → batches_of (rows ++ next_row o.entries rows batch ∷ []) ≡ batches_of rows ++ batch ∷ []
batches_push o rows batch are lt =
    map-append (λ (r : Row). r.batch) rows (next_row o.entries rows batch ∷ []) ∙ ap (λ b. batches_of rows ++ b ∷ []) (are.numbered batch lt)

pub text_push : (header : List ℕ) (rows : List Row) (row : Row) → file_text header (rows ++ row ∷ []) ≡ file_text header rows ++ row_text row
text_push header rows row =
    ap (λ t. header ++ t) (flat_map-append row_text rows (row ∷ []) ∙ ap (λ t. flat_map row_text rows ++ t) (append-nil (row_text row)))
    ∙ sym (append_assoc header (flat_map row_text rows) (row_text row))

due_before : (entries : List Entry) (batches : List ℕ) (batch k : ℕ) → k < length batches → row_due entries (batches ++ batch ∷ []) k ≡ row_due entries batches k
due_before entries batches batch k lt =
    let same : get_or (batches ++ batch ∷ []) k 0 ≡ get_or batches k 0 = get_or-append batches (batch ∷ []) 0 k lt in
    let front : take (k + 1) (batches ++ batch ∷ []) ≡ take (k + 1) batches = take-append-le (k + 1) batches (batch ∷ []) (omega arith) in
    ap (λ b. row_with (board_entry entries b) (sums_over entries (take (k + 1) (batches ++ batch ∷ [])))) same
    ∙ ap (λ bs. row_with (board_entry entries (get_or batches k 0)) (sums_over entries bs)) front

due_last : (entries : List Entry) (batches : List ℕ) (batch k : ℕ) → k ≡ length batches
    → row_due entries (batches ++ batch ∷ []) k ≡ row_with (board_entry entries batch) (sums_over entries (batches ++ batch ∷ []))
due_last entries batches batch k e =
    let same : get_or (batches ++ batch ∷ []) (length batches) 0 ≡ batch = get_or-append_seam batches batch [] 0 in
    let all : take (k + 1) (batches ++ batch ∷ []) ≡ batches ++ batch ∷ [] = take_all _ (batches ++ batch ∷ []) (simp length-append (omega (arith, e))) in
    ap (λ b. row_with (board_entry entries b) (sums_over entries (take (k + 1) (batches ++ batch ∷ [])))) (ap (λ n. get_or (batches ++ batch ∷ []) n 0) e ∙ same)
    ∙ ap (λ bs. row_with (board_entry entries batch) (sums_over entries bs)) all

pub rows_push : (o : Start) (rows : List Row) (batch : ℕ) → AreEntries o.entries → AreRows o rows → batch < length o.entries → Lacks (batches_of rows) batch
    → o.takes batch ≡ true → AreRows o (rows ++ next_row o.entries rows batch ∷ [])
rows_push o rows batch are h lt lacks own =
    let row : Row = next_row o.entries rows batch in
    let batches : List ℕ = batches_of rows in
    let now : batches_of (rows ++ row ∷ []) ≡ batches ++ batch ∷ [] = batches_push o rows batch are lt in
    let many : length batches ≡ length rows = length-map rows (λ (r : Row). r.batch) in
    record {
      due = λ k below.
          (let both : (k < length rows) ⊎ (k ≡ length rows) = grind (arith, length-append rows (row ∷ [])) in
          subst (λ bs. row_at_place (rows ++ row ∷ []) k ≡ row_due o.entries bs k) (sym now)
          (elim both as (λ _. row_at_place (rows ++ row ∷ []) k ≡ row_due o.entries (batches ++ batch ∷ []) k) [
            | inl less ↦ get_or-append rows (row ∷ []) _ k less ∙ h.due k less ∙ sym (due_before o.entries batches batch k (omega (arith, many)))
            | inr e ↦
                ap (λ n. row_at_place (rows ++ row ∷ []) n) e ∙ get_or-append_seam rows row [] _
                ∙ sym (due_last o.entries batches batch k (omega (arith, many)))
          ]));
      once = subst IsOnce (sym now) (once_push batches batch h.once lacks);
      within = subst (All (λ b. b < length o.entries)) (sym now) (All-push (λ b. b < length o.entries) batches batch h.within lt);
      own = subst (All (λ b. o.takes b ≡ true)) (sym now) (All-push (λ b. o.takes b ≡ true) batches batch h.own own);
    }

-- there is room for one more
pub has_room : (o : Start) (rows : List Row) (batch : ℕ) → AreRows o rows → batch < length o.entries → Lacks (batches_of rows) batch → length rows < length o.entries
has_room o rows batch h lt lacks =
    let batches : List ℕ = batches_of rows in
    let few = once_few (batches ++ batch ∷ []) (length o.entries) (All-push (λ b. b < length o.entries) batches batch h.within lt) (once_push batches batch h.once lacks) in
    omega (arith, few, length-append batches (batch ∷ []), length-map rows (λ (r : Row). r.batch))
