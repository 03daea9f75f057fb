-- The lines of a text, part of which is read.
use Rattle.std.specs.Prelude.{ℕ, List, ◌++◌, filter}
use Rattle.blif_text.specs.Placed.{Piece, PlacedLine, has_tokens, join, placed_joined}

-- the lines done, and those of the physical lines left, the first of which goes on with this line
abbrev pub lines_left : List PlacedLine → PlacedLine → List (ℕ × Piece) → List PlacedLine
lines_left done line ps = done ++ filter has_tokens (join line.number line.tokens (placed_joined ps))
