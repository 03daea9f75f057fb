-- The tokens of a line, as they are read.
use Rattle.std.proofs.Common.{◌≡◌, List}
use Rattle.std.specs.Prelude.{length, nat_lt}
use Rattle.std.specs.List.{list_any}
use Rattle.fm_base.proofs.Finding.{list_any-map}
use Rattle.blif_text.specs.declared.token.Token.{Token}
use Rattle.blif_text.specs.Placed.{Piece}
use Rattle.blif_text.specs.Read.{piece_of, pieces_of}

-- the tokens of a line as pieces
pub wide_pieces : (tokens : List Token)
    → list_any (λ (p : Piece). nat_lt 255 (length p.text)) (pieces_of tokens)
    ≡ list_any (λ (t : Token). nat_lt 255 (length t.text.now)) tokens
wide_pieces tokens = list_any-map (λ (p : Piece). nat_lt 255 (length p.text)) piece_of tokens
