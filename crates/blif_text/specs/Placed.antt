-- The logical lines with the place of each token in the file, as they are read: shapes of private steps. What a file means cites the
-- lines of `Lines` alone, and `proofs/Texts` shows that these are the same without the places.
use Rattle.std.specs.Prelude.{ℕ, ◌+◌, ◌-◌, Bool, ◌==◌, nat_lt, List, [], ◌∷◌, ◌++◌, if◌then◌else◌, length, take, filter, map, slice_index}
use Rattle.std.specs.List.{list_any, suffix_len, enumerate_from, slice_split}
use Rattle.std.specs.Str.{byte}
use Rattle.fm_base.specs.Names.{Bytes}
use Rattle.blif_text.specs.Lines.{Line, is_feed, is_white, bare}

-- the last byte of the bare line is a backslash, so the next physical line is joined
abbrev pub is_joined : Bytes → Bool
is_joined line = slice_index (bare line) (length (bare line) - 1) == byte "\\"

-- the tokens of a physical line
abbrev pub tokens_of : Bytes → List Bytes
tokens_of line =
    let text = if is_joined line then take (length (bare line) - 1) (bare line) else bare line in
    filter (λ token. nat_lt 0 (length token)) (slice_split is_white text)

-- a piece of the file: the place of its first byte in the file, and its bytes
pub record Piece : Type 0 where
  pub start : ℕ
  pub text : Bytes

-- a logical line: the number of its first physical line, and its tokens in order
pub record PlacedLine : Type 0 where
  pub number : ℕ
  pub tokens : List Piece

-- texts one after the other from this place on, with one byte between each two
unfoldable pub placed : ℕ → List Bytes → List Piece
placed place [] = []
placed place (text ∷ texts) = record { start = place; text = text } ∷ placed (place + length text + 1) texts

-- the pieces into which a text that begins at this place is cut
abbrev pub pieces : (ℕ → Bool) → ℕ → Bytes → List Piece
pieces is_cut place text = placed place (slice_split is_cut text)

-- the physical lines are the pieces between line feeds
abbrev pub physical_lines : Bytes → List Piece
physical_lines bytes = pieces is_feed 0 bytes

-- a text without the white space at its end
abbrev pub trimmed : Bytes → Bytes
trimmed text = take (length text - suffix_len is_white text) text

-- the bare line, without the backslash that joins
abbrev pub inked : Bytes → Bytes
inked text = if is_joined text then take (length (bare text) - 1) (bare text) else bare text

-- a piece with a byte
abbrev pub has_bytes : Piece → Bool
has_bytes piece = nat_lt 0 (length piece.text)

-- the tokens of one physical line: the pieces between white bytes that have a byte
abbrev pub placed_tokens : Piece → List Piece
placed_tokens line = filter has_bytes (pieces is_white line.start (inked line.text))

-- tokens in front of the logical line that they are joined to; at the file's end there is none
abbrev pub join : ℕ → List Piece → List PlacedLine → List PlacedLine
join number tokens [] = record { number = number; tokens = tokens } ∷ []
join number tokens (line ∷ lines) = record { number = number; tokens = tokens ++ line.tokens } ∷ lines

-- the logical lines of numbered physical lines
unfoldable pub placed_joined : List (ℕ × Piece) → List PlacedLine
placed_joined [] = []
placed_joined (first ∷ rest) =
    let more = placed_joined rest in
    if is_joined first.1.text then join first.0 (placed_tokens first.1) more
    else record { number = first.0; tokens = placed_tokens first.1 } ∷ more

-- a line with a token
abbrev pub has_tokens : PlacedLine → Bool
has_tokens line = nat_lt 0 (length line.tokens)

-- the logical lines of a file that have tokens
unfoldable pub placed_lines : Bytes → List PlacedLine
placed_lines bytes = filter has_tokens (placed_joined (enumerate_from 1 (physical_lines bytes)))

-- some token has more than 255 bytes
abbrev pub is_wide : PlacedLine → Bool
is_wide line = list_any (λ token. nat_lt 255 (length token.text)) line.tokens

-- the line without the places
abbrev pub text_line : PlacedLine → Line
text_line line = record { number = line.number; tokens = map (λ token. token.text) line.tokens }
