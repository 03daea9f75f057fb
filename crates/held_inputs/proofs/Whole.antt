-- From the rows of a held file to its answer.
use Rattle.std.proofs.Common.{◌≡◌, ◌∙◌, ℕ, ◌+◌, Bool, true, false, not, List, [], ◌∷◌, ◌++◌, length, map, sym, refl, ap, subst, arith, append_assoc}
use Rattle.std.specs.Prelude.{Option, Some, None, Result, Ok, Err, option_map, if◌then◌else◌}
use Rattle.std.proofs.lemmas.List.{append-nil}
use Rattle.circuit.specs.Circuit.{Circuit}
use Rattle.coverage_claim.specs.declared.parts.Held.{Held}
use Rattle.csv_rows.specs.Rows.{Fields, first_faulty_row, is_row, rows_of, unless_faulty}
use Rattle.csv_rows.specs.declared.FaultyRow.{FaultyRow}
use Rattle.fm_base.specs.Answers.{Gives}
use Rattle.fm_base.specs.Firsts.{first_after, first_fault, given, numbered_fault}
use Rattle.fm_base.specs.Names.{Bytes}
use Rattle.fm_base.specs.declared.refusal.Refusal.{Refusal}
use Rattle.fm_base.proofs.OnePass.{first_fault-here, first_fault-later}
use Rattle.held_inputs.specs.HeldFile.{held_of, held_row, row_fault}
use Rattle.held_inputs.specs.Steps.{IsHalfway, IsHeaderRead, fault_by, header, held_of_rows, held_unless}
use Rattle.held_inputs.specs.declared.HeldKind.{HeldKind}
use Rattle.held_inputs.specs.declared.HeldKind.TheVariants.{BadCsv}
use Rattle.held_inputs.proofs.Kept.{more_kept, none_kept}

-- ---- the definition, said by rows

row_fault-is : (c : Circuit) (before : List Fields) (row : Fields) → row_fault c before row ≡ fault_by c before row
unfolding row_fault
row_fault-is c before row = refl

unless : (found : Option (ℕ × HeldKind)) (held : List Held) → unless_faulty (found ∷ []) held ≡ held_unless found held
unless None held = refl
unless (Some found) held = refl

under : (c : Circuit) (rows : List Fields) (heads : Bool)
    → unless_faulty (given (not heads) (1, BadCsv) ∷ first_faulty_row (row_fault c) rows ∷ []) (map (held_row c) rows)
    ≡ (if heads then held_unless (first_faulty_row (row_fault c) rows) (map (held_row c) rows) else Err (record { row = 1; kind = BadCsv }))
under c rows true = unless (first_faulty_row (row_fault c) rows) (map (held_row c) rows)
under c rows false = refl

read_rows : (c : Circuit) (bytes : Bytes) (rows : List Fields) → rows_of bytes ≡ rows → held_of c bytes ≡ held_of_rows c rows
unfolding held_of
read_rows c bytes [] e = rw e refl
read_rows c bytes (first ∷ rows) e = rw e (under c rows (is_row header first))

pub file_is : (c : Circuit) (bytes : Bytes) → held_of c bytes ≡ held_of_rows c (rows_of bytes)
file_is c bytes = read_rows c bytes (rows_of bytes) refl

-- ---- the header

pub no_header : (c : Circuit) (rows : List Fields) (first : Fields) (left : List Fields) → rows ≡ first ∷ left → is_row header first ≡ false
    → held_of_rows c rows ≡ Err (record { row = 1; kind = BadCsv })
no_header c rows first left e f =
    ap (held_of_rows c) e
    ∙ ap (λ (b : Bool). if b then held_unless (first_faulty_row (row_fault c) left) (map (held_row c) left) else Err (record { row = 1; kind = BadCsv })) f

pub header_refused : (c : Circuit) (bytes : Bytes) (rows left : List Fields) (e : Refusal (FaultyRow HeldKind)) (result : Result (List Held) (Refusal (FaultyRow HeldKind)))
    → rows ≡ rows_of bytes → IsHeaderRead rows left (Err e) → result ≡ Err e → Gives (held_of c bytes) result
header_refused c bytes rows left e result is w same =
    let own : Gives {T = List Held} (held_of c bytes) (Err e) =
    subst (λ (answer : Result (List Held) (FaultyRow HeldKind)). Gives answer (Err e)) (ap (held_of_rows c) is ∙ sym (file_is c bytes)) (w c) in
    subst (Gives (held_of c bytes)) (sym same) own

-- ---- the rows

-- below the header
pub begun : (c : Circuit) (bytes : Bytes) (rows listed left : List Fields) → rows ≡ rows_of bytes → listed ≡ [] → (first : Fields) → rows ≡ first ∷ left → is_row header first ≡ true
    → IsHalfway c bytes listed left
begun c bytes rows listed left e none first is heads =
    let own : IsHalfway c bytes [] left = record { first = first; heads = heads; whole = sym e ∙ is; kept = none_kept c; faultless = refl } in
    subst (λ (some : List Fields). IsHalfway c bytes some left) (sym none) own

-- a row without a fault
pub step : (c : Circuit) (bytes : Bytes) (rows more : List Fields) (row : Fields) (old left : List Fields) → IsHalfway c bytes rows old → old ≡ row ∷ left
    → fault_by c rows row ≡ None → more ≡ rows ++ row ∷ [] → IsHalfway c bytes more left
step c bytes rows more row old left w e none added =
    let again : (rows ++ row ∷ []) ++ left ≡ rows ++ old = append_assoc rows (row ∷ []) left ∙ ap (λ others. rows ++ others) (sym e) in
    let good : row_fault c rows row ≡ None = row_fault-is c rows row ∙ none in
    let own : IsHalfway c bytes (rows ++ row ∷ []) left = record {
      first = w.first;
      heads = w.heads;
      whole = w.whole ∙ ap (λ others. w.first ∷ others) (sym again);
      kept = more_kept c rows row w.kept none;
      faultless = ap (first_fault (row_fault c)) again ∙ w.faultless ∙ ap (first_after (numbered_fault (row_fault c)) rows) e ∙ first_fault-later (row_fault c) rows row left good;
    } in
    subst (λ (some : List Fields). IsHalfway c bytes some left) (sym added) own

answer_is : (c : Circuit) (bytes : Bytes) (rows left : List Fields) (w : IsHalfway c bytes rows left) (found : Option (ℕ × HeldKind))
    → first_after (numbered_fault (row_fault c)) rows left ≡ found
    → held_of c bytes ≡ held_unless (option_map (λ f. (f.0 + 1, f.1)) found) (map (held_row c) (rows ++ left))
answer_is c bytes rows left w found e =
    file_is c bytes ∙ ap (held_of_rows c) w.whole
    ∙ ap (λ (b : Bool). if b then held_unless (first_faulty_row (row_fault c) (rows ++ left)) (map (held_row c) (rows ++ left)) else Err (record { row = 1; kind = BadCsv })) w.heads
    ∙ ap (λ (o : Option (ℕ × HeldKind)). held_unless (option_map (λ f. (f.0 + 1, f.1)) o) (map (held_row c) (rows ++ left))) (w.faultless ∙ e)

-- a row with a fault
pub row_refused : (c : Circuit) (bytes : Bytes) (rows : List Fields) (row : Fields) (old left : List Fields) (kind : HeldKind) → IsHalfway c bytes rows old → old ≡ row ∷ left
    → fault_by c rows row ≡ Some kind → held_of c bytes ≡ Err (record { row = length rows + 2; kind = kind })
row_refused c bytes rows row old left kind w e fault =
    let bad : row_fault c rows row ≡ Some kind = row_fault-is c rows row ∙ fault in
    let number : length rows + 1 + 1 ≡ length rows + 2 = omega arith in
    answer_is c bytes rows old w (Some (length rows + 1, kind))
    (ap (first_after (numbered_fault (row_fault c)) rows) e ∙ first_fault-here (row_fault c) rows row left kind bad)
    ∙ ap (λ n. Err (record { row = n; kind = kind })) number

none_after : (c : Circuit) (rows : List Fields) → first_after (numbered_fault (row_fault c)) rows [] ≡ None
unfolding first_after
none_after c rows = refl

-- no further row
pub gives_held : (c : Circuit) (bytes : Bytes) (rows : List Fields) → IsHalfway c bytes rows [] → held_of c bytes ≡ Ok (map (held_row c) rows)
gives_held c bytes rows w = answer_is c bytes rows [] w None (none_after c rows) ∙ ap (λ (all : List Fields). Ok (map (held_row c) all)) (append-nil rows)
