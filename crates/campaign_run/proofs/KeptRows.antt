-- What is kept of a file are rows of distinct batches, each with the sums from scratch, and the bytes that hold them.
use Rattle.std.proofs.Common.{◌≡◌, ◌⊎◌, inl, inr, ℕ, zero, suc, ◌+◌, ◌-◌, ◌*◌, ◌<◌, Bool, true, false, not, List, [], ◌∷◌, ◌++◌, map, length, take, drop, get_or, refl, ap, sym, subst, ◌∙◌, arith, length-append, append_assoc, append-nil}
use Rattle.std.specs.Prelude.{Option, Some, None, Ok, All, flat_map, slice_range, nat_le}
use Rattle.std.specs.Str.{bytes_eq}
use Rattle.std.proofs.lemmas.Bool.Decides.{nat_tests}
use Rattle.std.proofs.lemmas.Slice.Eq.{bytes_eq-Decides}
use Rattle.std.proofs.lemmas.List.{map-append, take-append-le, take_all, length-map}
use Rattle.std.proofs.lemmas.List.Concat.{flat_map-append}
use Rattle.std.proofs.lemmas.List.Elements.{All-nil, All-push, All-head, All-tail}
use Rattle.std.proofs.Math.ListN.{get_or-append}
use Rattle.std.proofs.Math.Seq.{get_or-append_seam, take-add}
use Rattle.fm_base.specs.Firsts.{given, first_answer, first_after, first_fault, numbered_fault}
use Rattle.fm_base.specs.Lists.{below}
use Rattle.fm_base.proofs.Below.{map-below}
use Rattle.campaign_plan.specs.Analysis.{Analysis, batch_count}
use Rattle.campaign_plan.specs.Batches.{total, AreDistinct}
use Rattle.result_file.specs.declared.Row.{Row}
use Rattle.result_file.specs.declared.RowFault.{RowFault}
use Rattle.result_file.specs.declared.RowFault.TheVariants as why
use Rattle.result_file.specs.declared.KeptRows.{KeptRows}
use Rattle.result_file.specs.ResultText.{row_text}
use Rattle.result_file.specs.KeptRows.{kept, kept_unless, whole_pieces, is_torn_header, row_fault, row_read, entry_of as planed}
use Rattle.result_file.proofs.Checks.{once_more, sums_equal}
use Rattle.result_file.proofs.Keeping.{kept_torn, kept_foreign, kept_own}
use Rattle.result_file.proofs.Pieces.{length-pieces}
use Rattle.result_file.proofs.Whole.{no_row}
use Rattle.campaign_board.specs.Boards.{file_text}
use Rattle.campaign_run.specs.Starting.{no_kept_rows}
use Rattle.fm_base.proofs.Options.{none_both, none_mapped}

-- rows of distinct batches, each with the sums of the rows up to it
pub record AreKept (p : Analysis) (rows : List Row) : Type 0 where
  pub distinct : AreDistinct p (map planed rows)
  pub summed : (i : ℕ) → i < length rows → (get_or rows i no_row).sums ≡ total p (map planed (take (i + 1) rows))

-- nothing is kept, or the bytes are the header and the rows
pub record IsKept (own : List ℕ) (p : Analysis) (bytes : List ℕ) (k : KeptRows) : Type 0 where
  pub rows : AreKept p k.rows
  pub whole : (k ≡ no_kept_rows) ⊎ ((k.whole ≡ 89 + 130 * length k.rows) × (take k.whole bytes ≡ file_text own k.rows))

pub nothing_kept : (p : Analysis) → AreKept p []
nothing_kept p = record {
  distinct = record { within = λ k d lt. absurd (omega arith); once = tt };
  summed = λ i lt. absurd (omega arith);
}

-- one more row
kept_push : (p : Analysis) (rows : List Row) (row : Row) → AreKept p rows → AreDistinct p (map planed (rows ++ row ∷ []))
    → row.sums ≡ total p (map planed (rows ++ row ∷ [])) → AreKept p (rows ++ row ∷ [])
kept_push p rows row h distinct summed = record {
  distinct = distinct;
  summed = λ i lt. (
      let both : (i < length rows) ⊎ (i ≡ length rows) = grind (arith, length-append rows (row ∷ [])) in
      elim both as (λ _. (get_or (rows ++ row ∷ []) i no_row).sums ≡ total p (map planed (take (i + 1) (rows ++ row ∷ [])))) [
        | inl lower ↦
            (let front : take (i + 1) (rows ++ row ∷ []) ≡ take (i + 1) rows = take-append-le (i + 1) rows (row ∷ []) (omega arith) in
            ap (λ (r : Row). r.sums) (get_or-append rows (row ∷ []) no_row i lower) ∙ h.summed i lower ∙ ap (λ rs. total p (map planed rs)) (sym front))
        | inr last ↦
            (let all : take (i + 1) (rows ++ row ∷ []) ≡ rows ++ row ∷ [] = take_all _ (rows ++ row ∷ []) (simp length-append (omega (arith, last))) in
            let here : get_or (rows ++ row ∷ []) i no_row ≡ row = ap (λ n. get_or (rows ++ row ∷ []) n no_row) last ∙ get_or-append_seam rows row [] no_row in
            ap (λ (r : Row). r.sums) here ∙ summed ∙ ap (λ rs. total p (map planed rs)) (sym all))
      ]);
}

-- ---- a row without a fault

passes : (form range again lane same : Bool) (sums : RowFault)
    → first_answer (given (not form) why.Form ∷ given range why.Range ∷ given again why.Repeated ∷ given lane why.UnusedLane ∷ given (not same) sums ∷ []) ≡ None
    → (form ≡ true) × (range ≡ false) × (again ≡ false) × (same ≡ true)
passes false range again lane same sums h = absurd (cc)
passes true true again lane same sums h = absurd (cc)
passes true false true lane same sums h = absurd (cc)
passes true false false true same sums h = absurd (cc)
passes true false false false false sums h = absurd (cc)
passes true false false false true sums h = (refl, refl, refl, refl)

row_passes : (p : Analysis) (before : List (List ℕ)) (piece : List ℕ) → AreKept p (map row_read before) → row_fault p before piece ≡ None
    → AreKept p (map row_read before ++ row_read piece ∷ []) × (row_text (row_read piece) ≡ piece)
unfolding row_fault
row_passes p before piece h none =
    let rows : List Row = map row_read before in
    let row : Row = row_read piece in
    let pass = passes _ _ _ _ _ _ none in
    let past : nat_le (batch_count p) row.batch ≡ false = pass.1 in
    let lt : row.batch < batch_count p = grind (arith, nat_tests) in
    let sums : row.sums ≡ total p (map planed rows ++ planed row ∷ []) = sums_equal row.sums _ pass.3 in (
      kept_push p rows row h (once_more p rows row h.distinct lt pass.2) (sums ∙ ap (total p) (sym (map-append planed rows (row ∷ [])))),
      (bytes_eq-Decides (row_text row) piece).0 pass.0,
    )

-- ---- all rows

pieces_pass : (p : Analysis) (ps before : List (List ℕ)) → first_after (numbered_fault (row_fault p)) before ps ≡ None → AreKept p (map row_read before)
    → All (λ piece. row_text (row_read piece) ≡ piece) before
    → AreKept p (map row_read (before ++ ps)) × All (λ piece. row_text (row_read piece) ≡ piece) (before ++ ps)
unfolding first_after
pieces_pass p [] before h kept forms =
    let same : before ++ [] ≡ before = append-nil before in
    (subst (λ xs. AreKept p (map row_read xs)) (sym same) kept, subst (All (λ piece. row_text (row_read piece) ≡ piece)) (sym same) forms)
pieces_pass p (piece ∷ ps) before h kept forms =
    let split = none_both _ _ h in
    let pass = row_passes p before piece kept (none_mapped _ _ split.0) in
    let more : AreKept p (map row_read (before ++ piece ∷ [])) = subst (AreKept p) (sym (map-append row_read before (piece ∷ []))) pass.0 in
    let rest = pieces_pass p ps (before ++ piece ∷ []) split.1 more (All-push (λ x. row_text (row_read x) ≡ x) before piece forms pass.1) in
    let same : (before ++ piece ∷ []) ++ ps ≡ before ++ (piece ∷ ps) = append_assoc before (piece ∷ []) ps in
    (subst (λ xs. AreKept p (map row_read xs)) same rest.0, subst (All (λ x. row_text (row_read x) ≡ x)) same rest.1)

-- ---- the bytes

abbrev joined : List (List ℕ) → List ℕ
joined ps = flat_map (λ piece. piece) ps

rows_text : (ps : List (List ℕ)) → All (λ piece. row_text (row_read piece) ≡ piece) ps → flat_map row_text (map row_read ps) ≡ joined ps
rows_text [] forms = refl
rows_text (piece ∷ ps) forms =
    let P : List ℕ → Type 0 = λ x. row_text (row_read x) ≡ x in
    ap (λ t. t ++ flat_map row_text (map row_read ps)) (All-head P piece ps forms) ∙ ap (λ t. piece ++ t) (rows_text ps (All-tail P piece ps forms))

abbrev piece_at : List ℕ → ℕ → List ℕ
piece_at bytes k = slice_range bytes (89 + 130 * k) (89 + 130 * (k + 1))

pieces_text : (bytes : List ℕ) (n : ℕ) → take (89 + 130 * n) bytes ≡ take 89 bytes ++ joined (map (piece_at bytes) (below n))
unfolding below
pieces_text bytes zero = sym (append-nil (take 89 bytes))
pieces_text bytes (suc n) =
    let from : ℕ = 89 + 130 * n in
    let end : 89 + 130 * suc n ≡ from + 130 = omega arith in
    let size : 130 ≡ 89 + 130 * (n + 1) - from = omega arith in
    ap (λ m. take m bytes) end ∙ take-add from 130 bytes ∙ ap (λ m. take from bytes ++ take m (drop from bytes)) size
    ∙ ap (λ t. t ++ piece_at bytes n) (pieces_text bytes n)
    ∙ append_assoc (take 89 bytes) (joined (map (piece_at bytes) (below n))) (piece_at bytes n)
    ∙ ap (λ t. take 89 bytes ++ t)
    (ap (λ t. joined (map (piece_at bytes) (below n)) ++ t) (sym (append-nil (piece_at bytes n)))
    ∙ sym (flat_map-append (λ piece. piece) (map (piece_at bytes) (below n)) (piece_at bytes n ∷ [])) ∙ ap joined (sym (map-below (piece_at bytes) n)))

-- ---- what is kept

unless_is : (o : Option (ℕ × RowFault)) (ps : List (List ℕ)) (k : KeptRows) → kept_unless o ps ≡ Ok k
    → (o ≡ None) × (k ≡ record { rows = map row_read ps; whole = 89 + 130 * length ps })
unless_is (Some found) ps k h = absurd (cc)
unless_is None ps k h = (refl, let same : record { rows = map row_read ps; whole = 89 + 130 * length ps } ≡ k = cc in sym same)

whole_is : (own : List ℕ) (p : Analysis) (bytes : List ℕ) → take 89 bytes ≡ own → first_fault (row_fault p) (whole_pieces bytes) ≡ None
    → IsKept own p bytes (record { rows = map row_read (whole_pieces bytes); whole = 89 + 130 * length (whole_pieces bytes) })
whole_is own p bytes head none =
    let ps : List (List ℕ) = whole_pieces bytes in
    let pass = pieces_pass p ps [] none (nothing_kept p) (All-nil (λ piece. row_text (row_read piece) ≡ piece)) in
    record {
      rows = pass.0;
      whole = inr (
        ap (λ n. 89 + 130 * n) (sym (length-map ps row_read)),
        ap (λ n. take (89 + 130 * n) bytes) (length-pieces bytes) ∙ pieces_text bytes _ ∙ ap (λ t. t ++ joined ps) head
            ∙ ap (λ t. own ++ t) (sym (rows_text ps pass.1)),
      );
    }

pub kept_is : (own : List ℕ) (p : Analysis) (bytes : List ℕ) (k : KeptRows) → length own ≡ 89 → kept own p bytes ≡ Ok k → IsKept own p bytes k
kept_is own p bytes k many h = torn (is_torn_header own bytes) refl
  where
    mine : (b : Bool) → is_torn_header own bytes ≡ false → bytes_eq (take 89 bytes) own ≡ b → IsKept own p bytes k
    mine false e f = let clash = sym (kept_foreign own p bytes e f) ∙ h in absurd (cc)
    mine true e f =
        let is = unless_is (first_fault (row_fault p) (whole_pieces bytes)) (whole_pieces bytes) k (sym (kept_own own p bytes e f) ∙ h) in
        subst (IsKept own p bytes) (sym is.1) (whole_is own p bytes ((bytes_eq-Decides (take 89 bytes) own).0 f) is.0)

    torn : (b : Bool) → is_torn_header own bytes ≡ b → IsKept own p bytes k
    torn true e =
        let same : Ok no_kept_rows ≡ Ok k = sym (kept_torn own p bytes e) ∙ h in
        let is : k ≡ no_kept_rows = cc in
        record { rows = subst (λ (j : KeptRows). AreKept p j.rows) (sym is) (nothing_kept p); whole = inl is }
    torn false e = mine (bytes_eq (take 89 bytes) own) e refl
