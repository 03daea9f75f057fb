-- What contracts see of a shelf of files, and how a call changes it. This project's own rules: any call may fail, and each
-- failure is counted for the name that it was about.
use Rattle.std.specs.Prelude.{◌≡◌, ◌≢◌, ◌⊎◌, ℕ, ◌-◌, ◌<◌, ◌≤◌, ◌^◌, List, [], ◌∷◌, ◌++◌, map, length, take, drop}
use mathlib.Core.List.{IsPrefix}
use Rattle.fm_shelf.specs.Content.{Content, Unknown, Absent, Held, IsThere, HasIfKnown, bytes_of}
use Rattle.fm_shelf.specs.Past.{Given, Change, Took, Tore}

-- of each file by its name: what is known; how often reads and how often writes failed; and, known or not, what reads gave, how it was changed,
-- and how often it was read
pub record ShelfState : Type 0 where
  pub content : List ℕ → Content
  pub read_faults : List ℕ → ℕ
  pub write_faults : List ℕ → ℕ
  pub given : List ℕ → List Given
  pub changed : List ℕ → List Change
  pub asked : List ℕ → ℕ

-- the count rose, or stands at the last value of a counter
abbrev pub CountRose : ℕ → ℕ → Type 0
CountRose before now = now < 2 ^ 64 - 1 → before < now

-- no count falls, and none rises of a file of another name that is known to be there
pub record Counts (content : List ℕ → Content) (name : List ℕ) (before now : List ℕ → ℕ) : Type 0 where
  pub grows : (other : List ℕ) → before other ≤ now other
  pub others : (other : List ℕ) → other ≢ name → IsThere (content other) → now other ≡ before other

-- n bytes were read from a place of these bytes
pub record IsPieceRead (bytes : List ℕ) (at n : ℕ) (piece : List ℕ) : Type 0 where
  pub within : n ≤ length bytes - at
  pub read : take n piece ≡ take n (drop at bytes)
  pub some : 0 < length piece → at < length bytes → 0 < n

-- nothing was done but that this file was read, or a read of it failed
pub record OnlyReads (before after : ShelfState) (name : List ℕ) : Type 0 where
  pub content : after.content ≡ before.content
  pub counts : Counts before.content name before.read_faults after.read_faults
  pub writes : (other : List ℕ) → after.write_faults other ≡ before.write_faults other
  pub more : (other : List ℕ) → IsPrefix (before.given other) (after.given other)
  pub gives : (other : List ℕ) → other ≢ name → after.given other ≡ before.given other
  pub changed : after.changed ≡ before.changed
  pub asks : (other : List ℕ) → other ≢ name → after.asked other ≡ before.asked other

-- nothing was done but that files were read, or reads of them failed
pub record OnlyReadsAny (before after : ShelfState) : Type 0 where
  pub content : after.content ≡ before.content
  pub counts : (name : List ℕ) → before.read_faults name ≤ after.read_faults name
  pub writes : (name : List ℕ) → after.write_faults name ≡ before.write_faults name
  pub more : (name : List ℕ) → IsPrefix (before.given name) (after.given name)
  pub changed : after.changed ≡ before.changed

-- nothing was done but that this file was changed, or a change of it failed; a file of which nothing is known stays so
pub record OnlyWrites (before after : ShelfState) (name : List ℕ) : Type 0 where
  pub others : (other : List ℕ) → other ≢ name → after.content other ≡ before.content other
  pub unknown : before.content name ≡ Unknown → after.content name ≡ Unknown
  pub counts : Counts before.content name before.write_faults after.write_faults
  pub reads : (other : List ℕ) → after.read_faults other ≡ before.read_faults other
  pub changes : (other : List ℕ) → other ≢ name → after.changed other ≡ before.changed other
  pub given : after.given ≡ before.given
  pub asked : after.asked ≡ before.asked

-- no file was changed: what is known of each is as it was, and none was cut or appended to
pub record IsUnchanged (before after : ShelfState) : Type 0 where
  pub content : after.content ≡ before.content
  pub changed : after.changed ≡ before.changed

-- no file of another name was changed
pub record KeepsOthers (before after : ShelfState) (name : List ℕ) : Type 0 where
  pub content : (other : List ℕ) → other ≢ name → after.content other ≡ before.content other
  pub changed : (other : List ℕ) → other ≢ name → after.changed other ≡ before.changed other

-- between the two, reads of the file gave this, one after the other
pub record Gives (before after : ShelfState) (name : List ℕ) (what : List Given) : Type 0 where
  pub first : List Given
  pub rest : List Given
  pub are : after.given name ≡ before.given name ++ (first ++ (what ++ rest))

-- where it is known, the file has its bytes with this change; an absent one counts as empty
abbrev pub Becomes : (before after : ShelfState) → (name : List ℕ) → (change : List ℕ → List ℕ) → Type 0
Becomes before after name change = HasIfKnown (after.content name) (change (bytes_of (before.content name)))

-- a change of the file failed: it is as before, or has the change
abbrev pub MayBecome : (before after : ShelfState) → (name : List ℕ) → (change : List ℕ → List ℕ) → Type 0
MayBecome before after name change =
    CountRose (before.write_faults name) (after.write_faults name)
    × ((after.content name ≡ before.content name) ⊎ Becomes before after name change)

-- where it is known, the file has a prefix of the piece more; an absent one may have stayed absent
abbrev pub MayHaveMore : (before after : Content) → List ℕ → Type 0
MayHaveMore before Unknown piece = Unit {0}
MayHaveMore before Absent piece = before ≡ Absent
MayHaveMore before (Held now) piece = (n : ℕ) × (n ≤ length piece) × (now ≡ bytes_of before ++ take n piece)

-- where it is known, the file has the piece more
abbrev pub Appends : (before after : ShelfState) → (name piece : List ℕ) → Type 0
Appends before after name piece = Becomes before after name (λ bytes. bytes ++ piece)

-- an append to the file failed: it may have a prefix of the piece more
abbrev pub MayAppend : (before after : ShelfState) → (name piece : List ℕ) → Type 0
MayAppend before after name piece =
    CountRose (before.write_faults name) (after.write_faults name) × MayHaveMore (before.content name) (after.content name) piece

-- the file took all of the piece, in one call or many
abbrev pub Takes : (before after : ShelfState) → (name piece : List ℕ) → Type 0
Takes before after name piece = after.changed name ≡ before.changed name ++ map Took piece

-- it took a prefix of the piece, and then an append of the rest failed
abbrev pub Tears : (before after : ShelfState) → (name piece : List ℕ) → Type 0
Tears before after name piece =
    (n : ℕ) × (after.changed name ≡ before.changed name ++ (map Took (take n piece) ++ Tore (drop n piece) ∷ []))
