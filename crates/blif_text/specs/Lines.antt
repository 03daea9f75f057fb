-- The logical lines of a netlist file, and their tokens. Source: BLIF of SIS.
use Rattle.std.specs.Prelude.{ℕ, ◌-◌, Bool, ◌||◌, ◌==◌, nat_lt, List, [], ◌∷◌, ◌++◌, if◌then◌else◌, length, take, drop, filter, flat_map, slice_index}
use Rattle.std.specs.List.{before_first, suffix_len, enumerate_from, slice_split}
use Rattle.std.specs.Str.{byte}
use Rattle.fm_base.specs.Names.{Bytes}

-- a logical line: the number of its first physical line, and its tokens in order
pub record Line : Type 0 where
  pub number : ℕ
  pub tokens : List Bytes

-- a line feed ends a physical line
abbrev pub is_feed : ℕ → Bool
is_feed b = b == 10

-- white space is a space, a tab or a carriage return
abbrev pub is_white : ℕ → Bool
is_white b = b == 32 || b == 9 || b == 13

-- a comment begins at a hash
abbrev pub is_hash : ℕ → Bool
is_hash b = b == byte "#"

-- the logical lines of numbered physical lines, without comments, cut at white bytes; a backslash at a line's end joins the next one
unfoldable pub joined : List (ℕ × Bytes) → List Line
joined [] = []
joined (first ∷ rest) =
    let text = before_first is_hash first.1 in
    let line = take (length text - suffix_len is_white text) text in
    let joins = slice_index line (length line - 1) == byte "\\" in
    let inked = if joins then take (length line - 1) line else line in
    let own = filter (λ token. nat_lt 0 (length token)) (slice_split is_white inked) in
    let more = joined rest in
    if joins then record { number = first.0; tokens = own ++ flat_map (λ next. next.tokens) (take 1 more) } ∷ drop 1 more
    else record { number = first.0; tokens = own } ∷ more

-- the logical lines of a file that have tokens; physical lines are numbered from 1
unfoldable pub lines_of : Bytes → List Line
lines_of bytes = filter (λ line. nat_lt 0 (length line.tokens)) (joined (enumerate_from 1 (slice_split is_feed bytes)))

-- ---- shapes of private steps: what is told of one physical line

-- a physical line without its comment, and then without the white space at its end
unfoldable pub bare : Bytes → Bytes
bare line = let text = before_first is_hash line in take (length text - suffix_len is_white text) text
