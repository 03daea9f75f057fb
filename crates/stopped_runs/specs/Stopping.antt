-- A shelf on which a stop comes, by a kill or a power cut. This project's own rules: behind the stop each call fails, and what the shelf
-- behind it took until then stays.
use Rattle.std.specs.Prelude.{◌≡◌, ◌⊎◌, ◌==◌, ℕ, ◌+◌, ◌-◌, Bool, true, false, List, [], ◌∷◌, map, take, if◌then◌else◌, nat_lt, Option, Some, None}
use Rattle.std.specs.Str.{bytes_eq}
use Rattle.fm_base.specs.Names.{Bytes}
use Rattle.fm_shelf.specs.Content.{Content, Unknown}
use Rattle.fm_shelf.specs.Entries.{told as seen_with}
use Rattle.fm_shelf.specs.Event.{Event}
use Rattle.fm_shelf.specs.Shelf.{ShelfState, Appends, CountRose}
use Rattle.stopped_runs.specs.declared.names.Told.{Told}
use Rattle.stopped_runs.specs.declared.names.ToldNames.{ToldNames}
use Rattle.stopped_runs.specs.declared.stopping.Stop.{Stop}

-- files of this name are told
abbrev pub is_told : List Told → Bytes → Bool
is_told [] name = false
is_told (told ∷ rest) name = if bytes_eq told.name.items name then true else is_told rest name

-- a count of the first of these of a name, or what stands for all other names
abbrev pub count_told : (Told → ℕ) → (others : ℕ) → List Told → Bytes → ℕ
count_told count others [] name = others
count_told count others (told ∷ rest) name = if bytes_eq told.name.items name then count told else count_told count others rest name

-- what is known of a file: of a name that is told, what the shelf behind tells
abbrev pub content_told : (Bytes → Content) → List Told → Bytes → Content
content_told content names name = if is_told names name then content name else Unknown

-- what is seen of it, of what is seen of the shelf behind it: the counts have the faults of the calls that failed by the stop, and the record is
-- of its own calls
abbrev pub stopping_state : ShelfState → ToldNames → List Event → ShelfState
stopping_state inner named events =
    seen_with (content_told inner.content named.names.items)
    (λ name. inner.read_faults name + count_told (λ it. it.reads) named.other_reads named.names.items name)
    (λ name. inner.write_faults name + count_told (λ it. it.writes) named.other_writes named.names.items name) events

-- when the stop comes, one call later: an append can't be torn behind it
abbrev pub behind_call : Stop → Stop
behind_call stop = if stop.calls == 0 then record { calls = 0; torn = None } else record stop { calls = stop.calls - 1 }

-- what a torn append has taken: so many of its first bytes, unless the shelf behind failed too
abbrev pub TakesTorn : (before after : ShelfState) → (torn : Option ℕ) → (name piece : Bytes) → Type 0
TakesTorn before after None name piece = after ≡ before
TakesTorn before after (Some n) name piece =
    Appends before after name (take n piece) ⊎ CountRose (before.write_faults name) (after.write_faults name)

-- ---- private steps

-- a count, and one more, up to the end of `u64`
abbrev pub one_more : ℕ → ℕ
one_more count = if nat_lt count 18446744073709551615 then count + 1 else count

-- what is kept of a name, once a read of this name has failed, and once a cut of it or an append to it has
abbrev pub read_noted : Bytes → Told → Told
read_noted name told = if bytes_eq told.name.items name then record told { reads = one_more told.reads } else told

abbrev pub write_noted : Bytes → Told → Told
write_noted name told = if bytes_eq told.name.items name then record told { writes = one_more told.writes } else told

-- a read of this name has failed by the stop
pub record NotesRead (name : Bytes) (before after : ToldNames) : Type 0 where
  pub names : after.names.items ≡ map (read_noted name) before.names.items
  pub reads : after.other_reads ≡ one_more before.other_reads
  pub writes : after.other_writes ≡ before.other_writes

-- a cut of this name or an append to it has
pub record NotesWrite (name : Bytes) (before after : ToldNames) : Type 0 where
  pub names : after.names.items ≡ map (write_noted name) before.names.items
  pub reads : after.other_reads ≡ before.other_reads
  pub writes : after.other_writes ≡ one_more before.other_writes
