-- The rows that are kept of a file are of distinct batches of the plan.
use Rattle.std.proofs.Common.{◌≡◌, ◌∙◌, sym, refl, subst, ℕ, ◌<◌, Bool, true, false, not, List, [], ◌∷◌, ◌++◌, map, take, arith, append_assoc, append-nil}
use Rattle.std.specs.Prelude.{◌==◌, Option, Some, None, Ok, nat_le}
use Rattle.std.specs.List.{list_any}
use Rattle.std.specs.Str.{bytes_eq}
use Rattle.std.proofs.lemmas.Bool.Decides.{nat_tests}
use Rattle.std.proofs.lemmas.List.{map-append}
use Rattle.fm_base.specs.Names.{Bytes}
use Rattle.fm_base.specs.Firsts.{given, first_answer, first_after, first_fault, numbered_fault}
use Rattle.campaign_plan.specs.Analysis.{Analysis, batch_count}
use Rattle.campaign_plan.specs.Batches.{AreDistinct}
use Rattle.result_file.specs.declared.Row.{Row}
use Rattle.result_file.specs.declared.RowFault.{RowFault}
use Rattle.result_file.specs.declared.RowFault.TheVariants as why
use Rattle.result_file.specs.declared.KeptRows.{KeptRows}
use Rattle.result_file.specs.KeptRows.{kept, kept_entries, kept_unless, whole_pieces, is_torn_header, row_fault, row_read, entry_of}
use Rattle.result_file.proofs.Checks.{once_more}
use Rattle.result_file.proofs.Keeping.{kept_torn, kept_foreign, kept_own}
use Rattle.fm_base.proofs.Options.{none_both, none_mapped}

abbrev AreOnce : Analysis → List Row → Type 0
AreOnce p rows = AreDistinct p (map entry_of rows)

none_once : (p : Analysis) → AreOnce p []
none_once p = record { within = λ k d lt. absurd (omega arith); once = tt }

-- a row without a fault is of a batch of the plan that no row before it has
is_new : (form range again lane same : Bool) (sums : RowFault)
    → first_answer (given (not form) why.Form ∷ given range why.Range ∷ given again why.Repeated ∷ given lane why.UnusedLane ∷ given (not same) sums ∷ []) ≡ None
    → (range ≡ false) × (again ≡ false)
is_new false range again lane same sums h = absurd (cc)
is_new true true again lane same sums h = absurd (cc)
is_new true false true lane same sums h = absurd (cc)
is_new true false false lane same sums h = (refl, refl)

row_once : (p : Analysis) (before : List Bytes) (piece : Bytes) → AreOnce p (map row_read before) → row_fault p before piece ≡ None
    → AreOnce p (map row_read (before ++ piece ∷ []))
unfolding row_fault
row_once p before piece h none =
    let row : Row = row_read piece in
    let new : (nat_le (batch_count p) row.batch ≡ false) × (list_any (λ earlier. earlier.batch == row.batch) (map row_read before) ≡ false) = is_new _ _ _ _ _ _ none in
    let past : nat_le (batch_count p) row.batch ≡ false = new.0 in
    let lt : row.batch < batch_count p = grind (arith, nat_tests) in
    subst (AreOnce p) (sym (map-append row_read before (piece ∷ []))) (once_more p (map row_read before) row h lt new.1)

rows_once : (p : Analysis) (pieces before : List Bytes) → first_after (numbered_fault (row_fault p)) before pieces ≡ None → AreOnce p (map row_read before)
    → AreOnce p (map row_read (before ++ pieces))
unfolding first_after
rows_once p [] before h once = subst (λ xs. AreOnce p (map row_read xs)) (sym (append-nil before)) once
rows_once p (piece ∷ pieces) before h once =
    let split = none_both _ _ h in
    let rest = rows_once p pieces (before ++ piece ∷ []) split.1 (row_once p before piece once (none_mapped _ _ split.0)) in
    subst (λ xs. AreOnce p (map row_read xs)) (append_assoc before (piece ∷ []) pieces) rest

unless_once : (p : Analysis) (o : Option (ℕ × RowFault)) (pieces : List Bytes) (k : KeptRows) → o ≡ first_fault (row_fault p) pieces → kept_unless o pieces ≡ Ok k
    → AreOnce p k.rows
unless_once p (Some found) pieces k o h = absurd (cc)
unless_once p None pieces k o h =
    let same : map row_read pieces ≡ k.rows = cc in
    subst (AreOnce p) same (rows_once p pieces [] (sym o) (none_once p))

pub kept_distinct : (own : Bytes) (p : Analysis) (bytes : Bytes) (k : KeptRows) → kept own p bytes ≡ Ok k → AreDistinct p (kept_entries k)
kept_distinct own p bytes k h = torn (is_torn_header own bytes) refl
  where
    mine : (b : Bool) → is_torn_header own bytes ≡ false → bytes_eq (take 89 bytes) own ≡ b → AreOnce p k.rows
    mine false e f = let clash = sym (kept_foreign own p bytes e f) ∙ h in absurd (cc)
    mine true e f = unless_once p (first_fault (row_fault p) (whole_pieces bytes)) (whole_pieces bytes) k refl (sym (kept_own own p bytes e f) ∙ h)

    torn : (b : Bool) → is_torn_header own bytes ≡ b → AreOnce p k.rows
    torn true e =
        let none : record { rows = []; whole = 0 } ≡ k = (let same : Ok (record { rows = []; whole = 0 }) ≡ Ok k = sym (kept_torn own p bytes e) ∙ h in cc) in
        subst (λ (j : KeptRows). AreOnce p j.rows) none (none_once p)
    torn false e = mine (bytes_eq (take 89 bytes) own) e refl
