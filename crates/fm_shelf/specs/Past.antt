-- What the calls of a shelf told of a file, byte by byte: what its reads gave, and how it was changed. This project's own rules.
use Rattle.std.specs.Prelude.{◌≡◌, ℕ, ◌+◌, ◌==◌, List, [], ◌∷◌, ◌++◌, map, length, take, drop, Result, Ok, Err, if◌then◌else◌}
use mathlib.Core.List.{IsPrefix}

-- a read gave this byte, from this place; or it asked for bytes from this place on and got none, since the file ends
pub data Given : Type 0 where
  Gave : (place byte : ℕ) → Given
  Ended : (place : ℕ) → Given

-- an append took this byte; one of these bytes failed, and the file may have a prefix of them; a cut to so many bytes, when reads of the file
-- had given this; one that failed, or not
pub data Change : Type 0 where
  Took : (byte : ℕ) → Change
  Tore : (bytes : List ℕ) → Change
  Cut MayCut : (given : List Given) (len : ℕ) → Change

-- these bytes, from this place on
abbrev pub gave_from : ℕ → List ℕ → List Given
gave_from at [] = []
gave_from at (byte ∷ bytes) = Gave at byte ∷ gave_from (at + 1) bytes

-- a whole file of these bytes, from place 0 to its end
abbrev pub gave_whole : List ℕ → List Given
gave_whole bytes = gave_from 0 bytes ++ Ended (length bytes) ∷ []

-- ---- what one call adds

-- a read from this place gave these bytes of so many that it asked for
abbrev pub gave : (at asked : ℕ) → List ℕ → List Given
gave at asked [] = if asked == 0 then [] else Ended at ∷ []
gave at asked (byte ∷ bytes) = gave_from at (byte ∷ bytes)

-- a read into this piece; one that failed gave nothing
abbrev pub given_by : {E : Type 0} → (at : ℕ) → (piece : List ℕ) → Result ℕ E → List Given
given_by at piece (Ok n) = gave at (length piece) (take n piece)
given_by at piece (Err failed) = []

-- an append of this piece
abbrev pub taken_by : {E : Type 0} → (piece : List ℕ) → Result ℕ E → List Change
taken_by piece (Ok n) = map Took (take n piece)
taken_by piece (Err failed) = Tore piece ∷ []

-- a cut to so many bytes, behind reads that gave this
abbrev pub cut_by : {E : Type 0} → List Given → (len : ℕ) → Result (Unit {0}) E → List Change
cut_by given len (Ok done) = Cut given len ∷ []
cut_by given len (Err failed) = MayCut given len ∷ []

-- ---- how a file is written in many calls

-- it was cut to so many bytes of this text, once ALL THAT READS OF IT HAVE GIVEN was read, and has taken the rest of the text
abbrev pub WritesOn : (whole : ℕ) → (text : List ℕ) → (given : List Given) → (before after : List Change) → Type 0
WritesOn whole text given before after = after ≡ before ++ Cut given whole ∷ map Took (drop whole text)

-- the same, up to a call that failed: the cut, or an append of some bytes that come next. WHAT WAS TAKEN STAYS: no cut follows the first
pub data StopsOn (whole : ℕ) (text : List ℕ) (given : List Given) (before after : List Change) : Type 0 where
  AtCut : after ≡ before ++ MayCut given whole ∷ [] → StopsOn whole text given before after
  AtPiece : (front piece : List ℕ) → IsPrefix (front ++ piece) (drop whole text)
      → after ≡ before ++ Cut given whole ∷ (map Took front ++ Tore piece ∷ []) → StopsOn whole text given before after
