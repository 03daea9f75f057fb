-- A CSV text. Source: RFC 4180; its lines end in a line feed alone.
use Rattle.std.specs.Prelude.{◌||◌, ◌==◌, List, [], ◌∷◌, ◌++◌, map, flat_map, if◌then◌else◌}
use Rattle.std.specs.List.{list_any, join_with_byte}
use Rattle.std.specs.Str.{byte}
use Rattle.fm_base.specs.Names.{Bytes}

-- a field; where a comma, a quote, a carriage return or a line feed is in it, it stands between quotes, and each quote in it is doubled
unfoldable pub csv_field : Bytes → Bytes
csv_field text =
    let doubled = flat_map (λ b. if b == byte "\"" then b ∷ b ∷ [] else b ∷ []) text in
    if list_any (λ b. b == byte "," || b == byte "\"" || b == 13 || b == 10) text then byte "\"" ∷ doubled ++ byte "\"" ∷ [] else text

-- ---- a shape of private steps, which the promise on the program doesn't cite

-- a row: its fields with a comma between each two, and a line feed
abbrev pub csv_row : List Bytes → Bytes
csv_row fields = join_with_byte (byte ",") (map csv_field fields) ++ 10 ∷ []
