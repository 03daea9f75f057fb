-- Rows of words, one more and each of them.
use Rattle.std.proofs.Common.{◌≡◌, inl, inr, ℕ, ◌+◌, ◌*◌, ◌/◌, ◌%◌, ◌<◌, ◌≤◌, List, [], ◌∷◌, ◌++◌, length, get_or, ap, sym, subst, ◌∙◌, arith}
use Rattle.std.specs.List.{between}
use Rattle.std.proofs.lemmas.Bool.{cases_eq}
use Rattle.std.proofs.lemmas.List.{get_or_append_left, get_or_push, length_push}
use Rattle.std.proofs.lemmas.List.Edits.{get_or-between}
use Rattle.std.proofs.lemmas.Nat.{mul-add-lt}
use Rattle.circuit.specs.Circuit.{Circuit}
use Rattle.circuit.specs.Trace.{trace}
use Rattle.fm_base.specs.Planes.{bit}
use Rattle.golden_difference.specs.Beside.{IsGoldenRow}
use Rattle.workload.specs.declared.run.Run.{Run}
use Rattle.workload.specs.Runs.{cycles_of, run_at}
use Rattle.golden_run.specs.Recorded.{AreGoldenRows, AreRowsOf, Recorded}

-- no rows
pub no_rows : (c : Circuit) (run : Run) (width : ℕ) (words : List ℕ) → words ≡ [] → AreRowsOf c run width 0 words
no_rows c run width words none = record {
  count = ap (λ (ws : List ℕ). length ws) none ∙ omega arith;
  values = λ t net lt within. absurd (omega arith);
}

-- one row more
pub row_more : (c : Circuit) (run : Run) (width t : ℕ) (words next : List ℕ) → AreRowsOf c run width t words
    → width ≡ length c.drivers / 64 + 1 → length next ≡ length words + width
    → ((i : ℕ) → i < length words → get_or next i 0 ≡ get_or words i 0)
    → ((net : ℕ) → net < length c.drivers → bit (get_or next (length words + net / 64) 0) (net % 64) ≡ trace c [] run.vectors t net)
    → AreRowsOf c run width (t + 1) next
row_more c run width t words next rows wide size kept last = record {
  count = size ∙ ap (λ n. n + width) rows.count ∙ omega arith;
  values = λ u net lt within.
      elim (cases_eq u t) [
        | inl same ↦
            (let at : u * width + net / 64 ≡ length words + net / 64 = ap (λ i. i * width + net / 64) same ∙ ap (λ n. n + net / 64) (sym rows.count) in
            ap (λ i. bit (get_or next i 0) (net % 64)) at ∙ last net within ∙ ap (λ i. trace c [] run.vectors i net) (sym same))
        | inr other ↦
            (let earlier : u < t = omega (arith, lt, other) in
            let place : net / 64 < width = omega (arith, wide, within) in
            ap (λ w. bit w (net % 64)) (kept (u * width + net / 64) (omega (arith, mul-add-lt u width (net / 64) t earlier place, rows.count)))
            ∙ rows.values u net earlier within)
      ];
}

-- the rows of one run more
pub run_more : (r : Recorded) (width n : ℕ) (rows : List (List ℕ)) (words : List ℕ) → AreGoldenRows r width n rows
    → AreRowsOf r.circuit (run_at r.runs n) width (cycles_of (run_at r.runs n)) words → AreGoldenRows r width (n + 1) (rows ++ words ∷ [])
run_more r width n rows words before own = record {
  count = length_push rows words ∙ ap (λ m. m + 1) before.count;
  each = λ run lt. elim (cases_eq run n) [
    | inl same ↦
        subst (λ m. AreRowsOf r.circuit (run_at r.runs m) width (cycles_of (run_at r.runs m)) (get_or (rows ++ words ∷ []) m [])) (sym same)
        (subst (AreRowsOf r.circuit (run_at r.runs n) width (cycles_of (run_at r.runs n))) (sym (get_or_push rows words [] n before.count)) own)
    | inr other ↦
        subst (AreRowsOf r.circuit (run_at r.runs run) width (cycles_of (run_at r.runs run)))
        (sym (get_or_append_left rows (words ∷ []) [] run (omega (arith, lt, other, before.count)))) (before.each run (omega (arith, lt, other)))
  ];
}

-- a row ends within the words
pub row_within : (c : Circuit) (run : Run) (width n t : ℕ) (words : List ℕ) → AreRowsOf c run width n words → t < n → t * width + width ≤ length words
row_within c run width n t words rows lt = omega (arith, rows.count, up)
  where
    up : (t + 1) * width ≤ n * width
    up = grind arith

-- and has the golden values
pub row_golden : (c : Circuit) (run : Run) (width n t : ℕ) (words : List ℕ) → width ≡ length c.drivers / 64 + 1 → AreRowsOf c run width n words → t < n
    → IsGoldenRow c run.vectors t (between (t * width) (t * width + width) words)
row_golden c run width n t words wide rows lt net within =
    let place : net / 64 < width = omega (arith, wide, within) in
    ap (λ w. bit w (net % 64)) (get_or-between words (t * width) (t * width + width) (net / 64) 0 (omega (arith, place)))
    ∙ rows.values t net lt within
