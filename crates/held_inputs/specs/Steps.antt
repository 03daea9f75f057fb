-- Shapes of private steps of the reader of a held file; no public clause cites them.
use Rattle.std.specs.Prelude.{◌≡◌, Bool, true, not, ◌&&◌, ◌==◌, ℕ, List, [], ◌∷◌, ◌++◌, length, Option, Some, None, is_none, Result, Ok, Err, map, if◌then◌else◌, nat_le, codes}
use Rattle.std.specs.List.{list_any}
use Rattle.circuit.specs.Circuit.{Circuit}
use Rattle.coverage_claim.specs.declared.parts.Held.{Held}
use Rattle.csv_rows.specs.declared.FaultyRow.{FaultyRow}
use Rattle.csv_rows.specs.Rows.{Fields, field, first_faulty_row, has_word, is_row, rows_of, same_field}
use Rattle.fm_base.specs.Answers.{Gives}
use Rattle.fm_base.specs.Firsts.{first_after, first_answer, first_fault, given, numbered_fault}
use Rattle.fm_base.specs.Names.{Bytes}
use Rattle.fm_base.specs.Plain.{plain_number}
use Rattle.fm_base.specs.Text.{is_bit}
use Rattle.fm_base.specs.declared.refusal.Refusal.{Refusal}
use Rattle.held_inputs.specs.HeldFile.{held_of, held_row, input_named, row_fault}
use Rattle.held_inputs.specs.HeldKept.{AreHeldFor}
use Rattle.held_inputs.specs.declared.HeldKind.{HeldKind}
use Rattle.held_inputs.specs.declared.HeldKind.TheVariants.{BadCsv, UnknownInput, Twice, TooLarge, BadFrom, BadBefore, NoCycleBefore, BadValue}

-- the header
abbrev pub header : Fields
header = codes "input" ∷ codes "from" ∷ codes "before" ∷ codes "value" ∷ []

-- the value before is neither a dash nor a bit, and it is given though there is no cycle before
abbrev pub is_bad_before : Fields → Bool
is_bad_before row = not (has_word (codes "-") 2 row) && not (is_bit (field row 2))

abbrev pub has_no_cycle_before : Fields → Bool
has_no_cycle_before row = not (has_word (codes "-") 2 row) && has_word (codes "0") 1 row

-- the first of a row's checks that fails
abbrev pub first_of : Bool → Bool → Bool → Bool → Bool → Bool → Bool → Bool → Option HeldKind
first_of width input twice many from before cycle value = first_answer (
    given width BadCsv ∷ given input UnknownInput ∷ given twice Twice ∷ given many TooLarge ∷ given from BadFrom ∷ given before BadBefore
    ∷ given cycle NoCycleBefore ∷ given value BadValue ∷ [])

abbrev pub fault_by : Circuit → List Fields → Fields → Option HeldKind
fault_by c before row =
    first_of (not (length row == 4)) (is_none (input_named c (field row 0))) (list_any (same_field 0 row) before) (nat_le 1024 (length before))
    (is_none (plain_number 65535 (field row 1))) (is_bad_before row) (has_no_cycle_before row) (not (is_bit (field row 3)))

-- the held inputs, unless a row has a fault
abbrev pub held_unless : Option (ℕ × HeldKind) → List Held → Result (List Held) (FaultyRow HeldKind)
held_unless (Some found) held = Err (record { row = found.0; kind = found.1 })
held_unless None held = Ok held

-- those of a file's rows, the first of which is the header
abbrev pub held_of_rows : Circuit → List Fields → Result (List Held) (FaultyRow HeldKind)
held_of_rows c [] = Err (record { row = 1; kind = BadCsv })
held_of_rows c (first ∷ rows) =
    if is_row header first then held_unless (first_faulty_row (row_fault c) rows) (map (held_row c) rows) else Err (record { row = 1; kind = BadCsv })

-- a reader between two rows: the header and these rows were read, and none of them has a fault
pub record IsHalfway (c : Circuit) (bytes : Bytes) (rows left : List Fields) : Type 0 where
  pub first : Fields
  pub heads : is_row header first ≡ true
  pub whole : rows_of bytes ≡ first ∷ (rows ++ left)
  pub kept : AreHeldFor c (map (held_row c) rows)
  pub faultless : first_fault (row_fault c) (rows ++ left) ≡ first_after (numbered_fault (row_fault c)) rows left

-- the first row is the header; or the file is refused for it
abbrev pub IsHeaderRead : (rows left : List Fields) → Result (Unit {0}) (Refusal (FaultyRow HeldKind)) → Type 0
IsHeaderRead rows left (Ok done) = (first : Fields) × (rows ≡ first ∷ left) × (is_row header first ≡ true)
IsHeaderRead rows left (Err refusal) = (c : Circuit) → Gives (held_of_rows c rows) (Err refusal)

-- all rows were read, and none has a fault; or the file is refused for one that has
abbrev pub AreListed : Circuit → Bytes → List Fields → Result (Unit {0}) (Refusal (FaultyRow HeldKind)) → Type 0
AreListed c bytes rows (Ok done) = IsHalfway c bytes rows []
AreListed c bytes rows (Err refusal) = Gives (held_of c bytes) (Err refusal)
