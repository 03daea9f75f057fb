-- The faults of one line: the kinds from NoModel to TooWide. In each definition `before` has the lines before it, in order.
-- The first faulty line decides, and on one line the first kind in the order in which `NetlistKind` lists them.
use Rattle.std.specs.Prelude.{ℕ, Bool, true, false, not, ◌&&◌, ◌||◌, ◌==◌, List, [], ◌∷◌, if◌then◌else◌, length, fold, Option, Some, None, bytes_eq, nat_lt, map}
use Rattle.std.specs.List.{list_any, list_all}
use Rattle.std.specs.Option.{option_or, option_map, option_map_or}
use Rattle.std.specs.Str.{byte}
use Rattle.blif_text.specs.declared.NetlistKind.{NetlistKind}
use Rattle.blif_text.specs.declared.NetlistKind.TheVariants.{NoModel, BadToken, BadRow, MixedPlane, TooWide}
use Rattle.blif_text.specs.declared.NetlistFault.{NetlistFault}
use Rattle.fm_base.specs.Firsts.{first_after, given}
use Rattle.blif_text.specs.Lines.{lines_of}
use Rattle.blif_model.specs.Statement.{Statement, model, table, end, row, passed, unnamed, wrong, statement_of}
use Rattle.fm_base.specs.Names.{Name, Bytes}
use Rattle.fm_base.specs.Text.{is_bit}

-- a refusal of a kind at a line
abbrev pub at_line : ℕ → NetlistKind → NetlistFault
at_line line kind = record { line = line; kind = kind }

-- what is asked of a logical line: its number, what it says, and whether it has a token that is too wide
pub record Said : Type 0 where
  pub number : ℕ
  pub says : Statement
  pub wide : Bool

-- what the lines of a file say; a token of more than 255 bytes is too wide
abbrev pub said_lines : Bytes → List Said
said_lines bytes =
    let is_wide = λ (token : Bytes). nat_lt 255 (length token) in
    map (λ line. record { number = line.number; says = statement_of line.tokens; wide = list_any is_wide line.tokens }) (lines_of bytes)

-- ---- the kind of a line

-- the output of a row is its last token
abbrev pub row_output : List Name → Name
row_output = elim [ [] ↦ [] | output ∷ [] ↦ output | cells ∷ output ∷ _ ↦ output ]

-- a row for no inputs is a bit; otherwise it is a cell for each input, which is 0, 1 or a dash, and a bit
abbrev pub is_row_of : ℕ → List Name → Bool
is_row_of count (output ∷ []) = count == 0 && is_bit output
is_row_of count (cells ∷ output ∷ []) =
    nat_lt 0 count && length cells == count && list_all (λ b. b == byte "0" || b == byte "1" || b == byte "-") cells && is_bit output
is_row_of count _ = false

-- the kind of a line, the width of its tokens aside: a `.model` line and one that is read past may stand anywhere, any other in a model
abbrev pub place_fault : List Said → Statement → Option NetlistKind
place_fault before says =
    -- a line stands inside a model where the last `.model` or `.end` line before it is a `.model` line
    let inside = fold (λ inside line. elim line.says [ model name ↦ true | end ↦ false | _ ↦ inside ]) false before in
    -- a row belongs to a table where nothing but rows and lines that are read past stands in between, and has the output of its first row
    let above = fold (λ t line. elim line.says [ table ins out ↦ Some ins | row cells ↦ t | passed ↦ t | _ ↦ None ]) None before in
    let plane = fold (λ p line. elim line.says [ row cells ↦ option_or p (Some (row_output cells)) | passed ↦ p | _ ↦ None ]) None before in
    let is_mixed = λ (tokens : List Name). option_map_or (λ output. not (bytes_eq output (row_output tokens))) plane false in
    let own_plane = λ (tokens ins : List Name). if is_row_of (length ins) tokens then given (is_mixed tokens) MixedPlane else Some BadRow in
    let of_row = λ (tokens : List Name). option_map_or (own_plane tokens) above (Some BadRow) in
    let of_table = λ (ins : List Name). given (nat_lt 1024 (length ins)) TooWide in
    let own : Option NetlistKind = elim says [ wrong kind ↦ Some kind | row t ↦ of_row t | table ins out ↦ of_table ins | _ ↦ None ] in
    elim says [ passed ↦ None | model name ↦ None | unnamed ↦ Some BadToken | _ ↦ if inside then own else Some NoModel ]

-- the first faulty line, by its least kind; a file without a line that is read is faulty at line 1
unfoldable pub line_fault : List Said → Option NetlistFault
line_fault lines =
    if list_any (λ line. elim line.says [ passed ↦ false | _ ↦ true ]) lines
    then first_after (λ before l. option_map (at_line l.number) (option_or (place_fault before l.says) (given l.wide TooWide))) [] lines
    else Some (at_line 1 NoModel)

-- ---- shapes of private steps: where a line stands, and its kind

-- a line stands inside a model
unfoldable pub is_inside : List Said → Bool
is_inside before = fold (λ inside line. elim line.says [ model name ↦ true | end ↦ false | _ ↦ inside ]) false before

-- the inputs of the table that a row belongs to
unfoldable pub table_above : List Said → Option (List Name)
table_above before =
    fold (λ above line. elim line.says [ table ins out ↦ Some ins | row tokens ↦ above | passed ↦ above | _ ↦ None ]) None before

-- the output of the first row of that table, where there is one
unfoldable pub plane_above : List Said → Option Name
plane_above before =
    fold (λ above line. elim line.says [ row tokens ↦ option_or above (Some (row_output tokens)) | passed ↦ above | _ ↦ None ]) None before

-- the least kind of a line
unfoldable pub kind_of : List Said → Said → Option NetlistKind
kind_of before line = option_or (place_fault before line.says) (given line.wide TooWide)
