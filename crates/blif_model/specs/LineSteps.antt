-- Shapes of private steps: what a line says as it is read, what it means for the place of the next one, and its fault part by part.
use Rattle.std.specs.Prelude.{ℕ, Bool, true, false, not, ◌||◌, ◌==◌, List, if◌then◌else◌, length, map, Option, Some, None, bytes_eq, nat_lt}
use Rattle.std.specs.Option.{option_or, option_map, option_map_or}
use Rattle.std.specs.Str.{byte}
use Rattle.blif_text.specs.declared.NetlistKind.{NetlistKind}
use Rattle.blif_text.specs.declared.NetlistKind.TheVariants.{BadRow, MixedPlane, TooWide}
use Rattle.blif_text.specs.declared.NetlistFault.{NetlistFault}
use Rattle.blif_text.specs.Placed.{PlacedLine, is_wide}
use Rattle.fm_base.specs.Firsts.{given}
use Rattle.fm_base.specs.Names.{Name}
use Rattle.blif_model.specs.LineFault.{Said, at_line, is_row_of, kind_of, plane_above, row_output, table_above}
use Rattle.blif_model.specs.Statement.{Statement, model, table, end, row, passed, wrong, statement_of}

-- the texts of a line's tokens
abbrev pub texts : PlacedLine → List Name
texts line = map (λ token. token.text) line.tokens

-- what a logical line says
abbrev pub said : PlacedLine → Said
said line = record { number = line.number; says = statement_of (texts line); wide = is_wide line }

-- whether the next line is inside a model, from whether this one was
abbrev pub inside_after : Bool → Statement → Bool
inside_after inside (model name) = true
inside_after inside end = false
inside_after inside _ = inside

-- the inputs of the table that the next line may give a row, from those for this one
abbrev pub table_after : Option (List Name) → Statement → Option (List Name)
table_after above (table ins out) = Some ins
table_after above (row tokens) = above
table_after above passed = above
table_after above _ = None

-- the output that the rows of the table have so far, for the next line
abbrev pub plane_after : Option Name → Statement → Option Name
plane_after above (row tokens) = option_or above (Some (row_output tokens))
plane_after above passed = above
plane_after above _ = None

-- a cell of a row is 0, 1 or a dash
abbrev pub is_cell : ℕ → Bool
is_cell b = b == byte "0" || b == byte "1" || b == byte "-"

-- a well-formed row has the output of the table's first row
abbrev pub plane_fault : List Said → List Name → Option NetlistKind
plane_fault before tokens =
    given (option_map_or (λ output. not (bytes_eq output (row_output tokens))) (plane_above before) false) MixedPlane

-- a row follows a table, is well-formed, and has the output of the table's first row
abbrev pub row_fault : List Said → List Name → Option NetlistKind
row_fault before tokens =
    let fault = λ (ins : List Name). if is_row_of (length ins) tokens then plane_fault before tokens else Some BadRow in
    option_map_or fault (table_above before) (Some BadRow)

-- the kind of a line inside a model, the width of its tokens aside
abbrev pub own_line_kind : List Said → Statement → Option NetlistKind
own_line_kind before (wrong kind) = Some kind
own_line_kind before (row tokens) = row_fault before tokens
own_line_kind before (table ins out) = given (nat_lt 1024 (length ins)) TooWide
own_line_kind before _ = None

-- the fault of a line
abbrev pub fault_of : List Said → Said → Option NetlistFault
fault_of before line = option_map (at_line line.number) (kind_of before line)

-- a line that isn't read past
abbrev pub is_read : Statement → Bool
is_read passed = false
is_read _ = true
