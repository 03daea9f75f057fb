-- Files that are read one after the other.
use Rattle.std.proofs.Common.{◌≡◌, ◌≢◌, ◌∙◌, refl, subst, sym, arith, ℕ, ◌+◌, ◌<◌, ◌≤◌, Bool, true, false, List, length, get_or, take, inl, inr}
use Rattle.std.specs.Prelude.{◌⊎◌, ◌++◌, All}
use Rattle.std.proofs.lemmas.Bool.{false≢true}
use Rattle.std.specs.List.{AllByRecursion as ForEach}
use Rattle.std.proofs.lemmas.List.{take_all}
use Rattle.std.proofs.lemmas.List.Elements.{All-more, All-weaker, recursion_from_All}
use denote.Enum.Bare.{sameb, same_true, same_false}
use Rattle.fm_base.specs.Names.{Bytes}
use Rattle.fm_shelf.specs.Content.{Content, Unknown, Absent, Held, HasIfKnown, IfPresent, IsIfKnown, greatest}
use Rattle.fm_shelf.specs.Past.{gave_from, gave_whole}
use Rattle.fm_shelf.specs.Shelf.{ShelfState, OnlyReads, OnlyReadsAny}
use Rattle.fm_shelf.proofs.Pasts.{prefix_same, prefix_then}
use Rattle.fm_shelf.proofs.Reading.{gives_all, gives_within}
use Rattle.commands.specs.declared.command.Which.{Which}
use Rattle.commands.specs.declared.command.Which.TheVariants.{Netlist}
use Rattle.commands.specs.contracts.command.Which.{the_type}
use Rattle.command_reads.specs.declared.files.FileRead.{FileRead}
use Rattle.command_reads.specs.declared.files.FileRead.TheVariants.{Whole, TooLong, Failed}
use Rattle.command_reads.specs.Files.{Reads, AreShort, IsShort, WasRead}

-- all of a file was read
pub read_whole : (before after : ShelfState) (name bytes : Bytes) → IfPresent (before.content name) (λ held. bytes ≡ held)
    → (before.content name ≡ Absent → false ≡ true) → length bytes ≤ greatest → after.given name ≡ before.given name ++ gave_whole bytes
    → WasRead before after name (Whole bytes)
read_whole before after name bytes is there short given =
    (known_as (before.content name) is there, short, gives_all before after name (gave_whole bytes) given)
  where
    known_as : (content : Content) → IfPresent content (λ held. bytes ≡ held) → (content ≡ Absent → false ≡ true) → HasIfKnown content bytes
    known_as Unknown is there = tt
    known_as Absent is there = absurd (false≢true (there refl))
    known_as (Held held) is there = sym is

-- nothing was done
none_read : (shelf : ShelfState) → OnlyReadsAny shelf shelf
none_read shelf = record {
  content = refl;
  counts = λ name. omega arith;
  writes = λ name. refl;
  more = λ name. prefix_same (shelf.given name);
  changed = refl;
}

-- one file was read
one_read : {before after : ShelfState} {name : Bytes} → OnlyReads before after name → OnlyReadsAny before after
one_read only = record { content = only.content; counts = only.counts.grows; writes = only.writes; more = only.more; changed = only.changed }

-- files were read, and then one more
pub more_read : {before mid after : ShelfState} {name : Bytes} → OnlyReadsAny before mid → OnlyReads mid after name → OnlyReadsAny before after
more_read {before = before} {mid = mid} {after = after} first next = record {
  content = next.content ∙ first.content;
  counts = λ name. omega (arith, first.counts name, next.counts.grows name);
  writes = λ name. next.writes name ∙ first.writes name;
  more = λ name. prefix_then (before.given name) (mid.given name) (after.given name) (first.more name) (next.more name);
  changed = next.changed ∙ first.changed;
}

-- a file that was read between two states was read between any that lie around them
read_within : {before start end after : ShelfState} (name : Bytes) (read : FileRead) → OnlyReadsAny before start → OnlyReadsAny end after
    → WasRead start end name read → WasRead before after name read
read_within {before = before} {start = start} {end = end} {after = after} name (Whole bytes) first last (has, short, gives) = (
  subst (λ content. HasIfKnown (content name) bytes) first.content has,
  short,
  gives_within before start end after name (gave_whole bytes) (first.more name) (last.more name) gives,
)
read_within {before = before} {start = start} {end = end} {after = after} name TooLong first last (is, (bytes, long, gives)) = (
  subst (λ content. IsIfKnown (content name) (λ held. greatest < length held)) first.content is,
  (bytes, long, gives_within before start end after name (gave_from 0 bytes) (first.more name) (last.more name) gives),
)
read_within name Failed first last rose = λ small. omega (arith, first.counts name, last.counts name, rose (omega (arith, last.counts name)))

same_or_not : (a b : Which) → (a ≡ b) ⊎ (a ≢ b)
same_or_not a b = by_test (sameb the_type a b) refl
  where
    by_test : (test : Bool) → sameb the_type a b ≡ test → (a ≡ b) ⊎ (a ≢ b)
    by_test true e = inl (same_true the_type tt a b e)
    by_test false e = inr (same_false the_type a b e)

short_read : (before after : ShelfState) (name : Bytes) (read : FileRead) → WasRead before after name read → IsShort read
short_read before after name (Whole bytes) was = was.1
short_read before after name TooLong was = tt
short_read before after name Failed was = tt

-- each of these files was read
abbrev pub AllWereRead : (before after : ShelfState) → (names : Which → Bytes) → Reads → List Which → Type 0
AllWereRead before after names reads files = All (λ file. WasRead before after (names file) (reads file)) files

-- files were read, and then one that is noted with them
module _ (before mid after : ShelfState) (names : Which → Bytes) (old new : Reads) (file : Which) (read : FileRead) (first : OnlyReadsAny before mid)
    (next : OnlyReads mid after (names file)) (was : WasRead mid after (names file) read) (put : new file ≡ read)
    (others : (other : Which) → other ≢ file → new other ≡ old other) where
  here : WasRead before after (names file) (new file)
  here = subst (WasRead before after (names file)) (sym put) (read_within (names file) read first (none_read after) was)

  -- the others are as they were
  there : (other : Which) → WasRead before mid (names other) (old other) → WasRead before after (names other) (new other)
  there other earlier = by_file (same_or_not other file)
    where
      by_file : (other ≡ file) ⊎ (other ≢ file) → WasRead before after (names other) (new other)
      by_file (inl same) = subst (λ f. WasRead before after (names f) (new f)) (sym same) here
      by_file (inr differ) =
          subst (WasRead before after (names other)) (sym (others other differ)) (read_within (names other) (old other) (none_read before) (one_read next) earlier)

  pub short_more : AreShort old → AreShort new
  short_more short other = by_file (same_or_not other file)
    where
      by_file : (other ≡ file) ⊎ (other ≢ file) → IsShort (new other)
      by_file (inl same) = subst (λ f. IsShort (new f)) (sym same) (short_read before after (names file) (new file) here)
      by_file (inr differ) = subst IsShort (sym (others other differ)) (short other)

  pub read_more : (files : List Which) (i : ℕ) → i < length files → file ≡ get_or files i Netlist → AllWereRead before mid names old (take i files)
      → AllWereRead before after names new (take (i + 1) files)
  read_more files i lt is earlier =
      All-more (λ f. WasRead before after (names f) (new f)) files i Netlist lt
      (All-weaker (λ f. WasRead before mid (names f) (old f)) (λ f. WasRead before after (names f) (new f)) there (take i files) earlier)
      (subst (λ f. WasRead before after (names f) (new f)) is here)

-- all of them were read
pub read_all_of : (before after : ShelfState) (names : Which → Bytes) (reads : Reads) (files : List Which) (i : ℕ) → length files ≤ i
    → AllWereRead before after names reads (take i files) → ForEach (λ file. WasRead before after (names file) (reads file)) files
read_all_of before after names reads files i all read =
    recursion_from_All (λ file. WasRead before after (names file) (reads file)) files (subst (AllWereRead before after names reads) (take_all i files all) read)
