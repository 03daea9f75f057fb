-- The held file: the inputs that are held at a value from a cycle on, and before that at another one, or at any. This project's own form.
-- A row has an input, the first cycle in which it has its value, the value that it has before, and its value.
use Rattle.std.specs.Prelude.{Bool, not, ◌&&◌, ◌||◌, ◌==◌, List, [], ◌∷◌, length, Option, Some, None, is_none, Result, map, find, unwrap_or, if◌then◌else◌, nat_le, bytes_eq, codes}
use Rattle.std.specs.Cmp.Lexicographic.{pointwise}
use Rattle.std.specs.List.{list_any}
use Rattle.circuit.specs.declared.parts.NetId.{NetId}
use Rattle.circuit.specs.Circuit.{Circuit}
use Rattle.circuit.specs.Names.{net_name}
use Rattle.coverage_claim.specs.declared.parts.Held.{Held}
use Rattle.csv_rows.specs.declared.FaultyRow.{FaultyRow}
use Rattle.csv_rows.specs.Rows.{Fields, field, first_faulty_row, has_word, header_and_rows, same_field, unless_faulty}
use Rattle.fm_base.specs.Firsts.{first_answer, given}
use Rattle.fm_base.specs.Names.{Bytes}
use Rattle.fm_base.specs.Plain.{plain_number}
use Rattle.fm_base.specs.Text.{is_bit}
use Rattle.held_inputs.specs.declared.HeldKind.{HeldKind}
use Rattle.held_inputs.specs.declared.HeldKind.TheVariants.{BadCsv, UnknownInput, Twice, TooLarge, BadFrom, BadBefore, NoCycleBefore, BadValue}

-- the input of a name, if there is one
abbrev pub input_named : Circuit → Bytes → Option NetId
input_named c name = find (λ net. bytes_eq name (net_name c net.0)) c.inputs

-- a row's checks, in the order of the kinds, after the rows `before`; a dash says that no value is given, as there can't be before cycle 0
unfoldable pub row_fault : Circuit → List Fields → Fields → Option HeldKind
row_fault c before row =
    let is_given = not (has_word (codes "-") 2 row) in
    first_answer (given (not (length row == 4)) BadCsv
    ∷ given (is_none (input_named c (field row 0))) UnknownInput
    ∷ given (list_any (same_field 0 row) before) Twice
    ∷ given (nat_le 1024 (length before)) TooLarge
    ∷ given (is_none (plain_number 65535 (field row 1))) BadFrom
    ∷ given (is_given && not (is_bit (field row 2))) BadBefore
    ∷ given (is_given && has_word (codes "0") 1 row) NoCycleBefore
    ∷ given (not (is_bit (field row 3))) BadValue ∷ [])

-- the held input of a row
abbrev pub held_row : Circuit → Fields → Held
held_row c row = record {
  net = unwrap_or (input_named c (field row 0)) (record { 0 = 0 });
  from = unwrap_or (plain_number 65535 (field row 1)) 0;
  before = if has_word (codes "-") 2 row then None else Some (has_word (codes "1") 2 row);
  value = has_word (codes "1") 3 row;
}

-- the held inputs of a file's bytes, in order of rows, or the row and the kind of the refusal
unfoldable pub held_of : Circuit → Bytes → Result (List Held) (FaultyRow HeldKind)
held_of c bytes =
    let (header, rows) = header_and_rows bytes in
    unless_faulty (given (not (pointwise bytes_eq (codes "input" ∷ codes "from" ∷ codes "before" ∷ codes "value" ∷ []) header)) (1, BadCsv)
    ∷ first_faulty_row (row_fault c) rows ∷ []) (map (held_row c) rows)
