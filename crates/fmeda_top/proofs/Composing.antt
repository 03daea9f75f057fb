-- Files that were read whole were read so whatever follows that reads nothing.
use Rattle.std.proofs.Common.{◌≡◌, ◌∙◌, ap, List, [], ◌∷◌}
use Rattle.std.specs.List.{AllByRecursion as ForEach}
use Rattle.fm_base.specs.Names.{Bytes}
use Rattle.fm_shelf.specs.Past.{Given, gave_whole}
use Rattle.fm_shelf.specs.Shelf.{ShelfState, Gives}
use Rattle.commands.specs.declared.command.Kind.{Kind}
use Rattle.commands.specs.declared.command.Kind.TheVariants as kind
use Rattle.commands.specs.declared.command.Which.{Which}
use Rattle.commands.specs.Commands.{files_of}
use Rattle.command_reads.specs.declared.files.FileRead.{FileRead}
use Rattle.command_reads.specs.declared.files.FileRead.TheVariants.{Whole, TooLong, Failed}
use Rattle.command_reads.specs.Files.{Reads, WasRead, WereRead}
use Rattle.fmeda_top.proofs.Judging.{AreWhole, IsWhole}

-- nothing was given since
gives_still : (before mid after : ShelfState) (name : Bytes) (what : List Given) → after.given ≡ mid.given → Gives before mid name what → Gives before after name what
gives_still before mid after name what same gives =
    record { first = gives.first; rest = gives.rest; are = ap (λ (given : Bytes → List Given). given name) same ∙ gives.are }

was_read_since : (before mid after : ShelfState) (name : Bytes) (read : FileRead) → after.given ≡ mid.given → IsWhole read → WasRead before mid name read
    → WasRead before after name read
was_read_since before mid after name (Whole bytes) same is (has, short, gives) = (has, short, gives_still before mid after name (gave_whole bytes) same gives)
was_read_since before mid after name TooLong same (bytes, is) read = absurd (cc)
was_read_since before mid after name Failed same (bytes, is) read = absurd (cc)

each_since : (before mid after : ShelfState) (names : Which → Bytes) (reads : Reads) (files : List Which) → after.given ≡ mid.given → AreWhole reads files
    → ForEach (λ file. WasRead before mid (names file) (reads file)) files → ForEach (λ file. WasRead before after (names file) (reads file)) files
each_since before mid after names reads [] same are read = tt
each_since before mid after names reads (file ∷ files) same (is, are) (was, read) =
    (was_read_since before mid after (names file) (reads file) same is was, each_since before mid after names reads files same are read)

pub read_since : (before mid after : ShelfState) (names : Which → Bytes) (reads : Reads) (own : Kind) → after.given ≡ mid.given → AreWhole reads (files_of own)
    → WereRead before mid names reads own → WereRead before after names reads own
read_since before mid after names reads (kind.Generated stages) same are read = read
read_since before mid after names reads own same are read = each_since before mid after names reads (files_of own) same are read
