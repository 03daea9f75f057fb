-- What the lines that are read mean.
use Rattle.std.specs.Prelude.{List, map}
use Rattle.blif_text.specs.Placed.{Piece, PlacedLine}
use Rattle.blif_text.specs.declared.token.Token.{Token}
use Rattle.blif_text.specs.declared.lines.TextLine.{TextLine}

abbrev pub piece_of : Token → Piece
piece_of t = record { start = t.start; text = t.text.now }

abbrev pub pieces_of : List Token → List Piece
pieces_of tokens = map piece_of tokens

abbrev pub line_of : TextLine → PlacedLine
line_of line = record { number = line.number; tokens = pieces_of line.tokens.items }

abbrev pub lines_seen : List TextLine → List PlacedLine
lines_seen lines = map line_of lines
