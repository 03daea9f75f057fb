-- The rows of a file, piece by piece.
use Rattle.std.proofs.Common.{◌≡◌, ℕ, ◌+◌, ◌-◌, ◌*◌, ◌/◌, ◌<◌, ◌≤◌, List, [], ◌∷◌, ◌++◌, map, length, take, drop, get_or, refl, ap, sym, subst, ◌∙◌, arith}
use Rattle.std.specs.Prelude.{Option, Some, None, slice_range}
use Rattle.std.proofs.lemmas.List.{take_more, drop_more, take_all, drop_all, map-append, length-take-le}
use Rattle.std.proofs.lemmas.List.FromFn.{length-map-range_with_len, get_or-map-range_with_len}
use Rattle.metric_sums.specs.declared.Sums.{Sums}
use Rattle.metric_sums.specs.Totals.{no_sums}
use Rattle.fm_base.specs.Lists.{below}
use Rattle.fm_base.proofs.OnePass.{first_fault-later, first_fault-here}
use Rattle.fm_base.specs.Firsts.{first_fault, first_after, numbered_fault}
use Rattle.campaign_plan.specs.Analysis.{Analysis}
use Rattle.campaign_plan.specs.Batches.{total}
use Rattle.result_file.specs.declared.Row.{Row}
use Rattle.result_file.specs.declared.RowFault.{RowFault}
use Rattle.result_file.specs.KeptRows.{row_read, row_fault, entry_of, whole_pieces}
use Rattle.result_file.specs.Steps.{fault_over}
use Rattle.campaign_plan.specs.Batches.{AreDistinct}

pub length-pieces : (bytes : List ℕ) → length (whole_pieces bytes) ≡ (length bytes - 89) / 130
unfolding below
length-pieces bytes = length-map-range_with_len (λ k. slice_range bytes (89 + 130 * k) (89 + 130 * (k + 1))) 0 ((length bytes - 89) / 130)

pub piece_at : (bytes : List ℕ) (k : ℕ) → k < (length bytes - 89) / 130 → get_or (whole_pieces bytes) k [] ≡ slice_range bytes (89 + 130 * k) (89 + 130 * (k + 1))
unfolding below
piece_at bytes k lt = get_or-map-range_with_len (λ k. slice_range bytes (89 + 130 * k) (89 + 130 * (k + 1))) 0 ((length bytes - 89) / 130) k k [] lt (omega arith)

-- the rows so far
pub record HasRead (p : Analysis) (ps : List (List ℕ)) (k : ℕ) (rows : List Row) (sums : Sums) : Type 0 where
  pub first : first_fault (row_fault p) ps ≡ first_after (numbered_fault (row_fault p)) (take k ps) (drop k ps)
  pub read : rows ≡ map row_read (take k ps)
  pub added : sums ≡ total p (map entry_of rows)
  pub once : AreDistinct p (map entry_of rows)

pub read_none : (p : Analysis) (ps : List (List ℕ)) (rows : List Row) (sums : Sums) → rows ≡ [] → sums ≡ no_sums → HasRead p ps 0 rows sums
read_none p ps rows sums e f =
    subst (λ r. HasRead p ps 0 r sums) (sym e) (subst (λ s. HasRead p ps 0 [] s) (sym f)
    (record { first = refl; read = refl; added = refl; once = record { within = λ k d lt. absurd (omega arith); once = tt } }))

over_rows : (p : Analysis) (before : List (List ℕ)) (rows : List Row) (piece : List ℕ) → rows ≡ map row_read before → row_fault p before piece ≡ fault_over p rows piece
unfolding row_fault
over_rows p before rows piece e = ap (λ rs. fault_over p rs piece) (sym e)

no_more : {X K : Type 0} (fault : List X → X → Option K) (before : List X) → first_after (numbered_fault fault) before [] ≡ None
unfolding first_after
no_more fault before = refl

pub read_more : (p : Analysis) (ps : List (List ℕ)) (k : ℕ) (rows : List Row) (sums : Sums) (piece : List ℕ) (row : Row) → HasRead p ps k rows sums → k < length ps
    → get_or ps k [] ≡ piece → row ≡ row_read piece → fault_over p rows piece ≡ None → row.sums ≡ total p (map entry_of (rows ++ row ∷ []))
    → AreDistinct p (map entry_of (rows ++ row ∷ [])) → HasRead p ps (k + 1) (rows ++ row ∷ []) row.sums
read_more p ps k rows sums piece row h lt at is fine added once =
    let front : take (k + 1) ps ≡ take k ps ++ piece ∷ [] = take_more ps k [] lt ∙ ap (λ x. take k ps ++ x ∷ []) at in
    let rest : drop k ps ≡ piece ∷ drop (k + 1) ps = drop_more ps k [] lt ∙ ap (λ x. x ∷ drop (k + 1) ps) at in
    record {
      first =
          h.first ∙ ap (first_after (numbered_fault (row_fault p)) (take k ps)) rest
          ∙ first_fault-later (row_fault p) (take k ps) piece (drop (k + 1) ps) (over_rows p (take k ps) rows piece h.read ∙ fine)
          ∙ ap (λ before. first_after (numbered_fault (row_fault p)) before (drop (k + 1) ps)) (sym front);
      read = ap (λ rs. rs ++ row ∷ []) h.read ∙ ap (λ x. map row_read (take k ps) ++ x ∷ []) is ∙ sym (ap (map row_read) front ∙ map-append row_read (take k ps) (piece ∷ []));
      added = added;
      once = once;
    }

pub read_bad : (p : Analysis) (ps : List (List ℕ)) (k : ℕ) (rows : List Row) (sums : Sums) (piece : List ℕ) (fault : RowFault) → HasRead p ps k rows sums → k < length ps
    → get_or ps k [] ≡ piece → fault_over p rows piece ≡ Some fault → first_fault (row_fault p) ps ≡ Some (k + 1, fault)
read_bad p ps k rows sums piece fault h lt at bad =
    let rest : drop k ps ≡ piece ∷ drop (k + 1) ps = drop_more ps k [] lt ∙ ap (λ x. x ∷ drop (k + 1) ps) at in
    let many : length (take k ps) ≡ k = length-take-le k ps (omega arith) in
    h.first ∙ ap (first_after (numbered_fault (row_fault p)) (take k ps)) rest
    ∙ first_fault-here (row_fault p) (take k ps) piece (drop (k + 1) ps) fault (over_rows p (take k ps) rows piece h.read ∙ bad)
    ∙ ap (λ n. Some (n + 1, fault)) many

pub read_all : (p : Analysis) (ps : List (List ℕ)) (k : ℕ) (rows : List Row) (sums : Sums) → HasRead p ps k rows sums → length ps ≤ k
    → (first_fault (row_fault p) ps ≡ None) × (rows ≡ map row_read ps)
read_all p ps k rows sums h le =
    let all : take k ps ≡ ps = take_all k ps le in
    let none : drop k ps ≡ [] = drop_all k ps le in
    (h.first ∙ ap (first_after (numbered_fault (row_fault p)) (take k ps)) none ∙ no_more (row_fault p) (take k ps), h.read ∙ ap (map row_read) all)

-- the piece as the code takes it
pub piece_cut : (bytes : List ℕ) (k : ℕ) → k < (length bytes - 89) / 130 → get_or (whole_pieces bytes) k [] ≡ slice_range bytes (89 + 130 * k) (89 + 130 * k + 130)
piece_cut bytes k lt =
    let e : 89 + 130 * (k + 1) ≡ 89 + 130 * k + 130 = omega arith in
    piece_at bytes k lt ∙ ap (slice_range bytes (89 + 130 * k)) e
