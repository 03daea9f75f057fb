-- What was read of the files of a command. This project's own rules: a file of more than 2^26 bytes isn't read whole, and a read may fail.
use Rattle.std.specs.Prelude.{◌≡◌, ◌<◌, ◌≤◌, ℕ, [], ◌∷◌, length, nat_le, if◌then◌else◌}
use Rattle.std.specs.List.{AllByRecursion as ForEach}
use Rattle.fm_base.specs.Names.{Bytes}
use Rattle.fm_shelf.specs.Content.{Content, Unknown, Held, HasIfKnown, IsIfKnown, greatest}
use Rattle.fm_shelf.specs.Past.{gave_from, gave_whole}
use Rattle.fm_shelf.specs.Shelf.{ShelfState, CountRose, Gives}
use Rattle.sample_gen.specs.Sample.{netlist_text, workload_text, rates_text, points_text}
use Rattle.commands.specs.declared.command.Kind.{Kind}
use Rattle.commands.specs.declared.command.Kind.TheVariants.{Generated}
use Rattle.commands.specs.declared.command.Which.{Which}
use Rattle.commands.specs.declared.command.Which.TheVariants as which
use Rattle.commands.specs.Commands.{by_file, files_of}
use Rattle.command_reads.specs.declared.files.FileRead.{FileRead}
use Rattle.command_reads.specs.declared.files.FileRead.TheVariants.{Whole, TooLong, Failed}
use Rattle.command_reads.specs.declared.files.Reads.{Reads as ReadsOf}

-- what was read of each file
abbrev pub Reads : Type 0
Reads = Which → FileRead

-- a file of this name was read: its bytes, where known, WHICH READS GAVE from place 0 to the end; it is longer; or the read failed, and was counted
abbrev pub WasRead : (before after : ShelfState) → (name : Bytes) → FileRead → Type 0
WasRead before after name (Whole bytes) =
    HasIfKnown (before.content name) bytes × (length bytes ≤ greatest) × Gives before after name (gave_whole bytes)
WasRead before after name TooLong =
    IsIfKnown (before.content name) (λ held. greatest < length held)
    × ((bytes : Bytes) × (greatest < length bytes) × Gives before after name (gave_from 0 bytes))
WasRead before after name Failed = CountRose (before.read_faults name) (after.read_faults name)

-- the texts that are generated for so many stages
abbrev pub generated : ℕ → Which → Bytes
generated stages = by_file (netlist_text stages) (workload_text stages) rates_text points_text [] [] [] [] []

-- each file of a command of this kind was read; or the generated texts stand for them
abbrev pub WereRead : (before after : ShelfState) → (names : Which → Bytes) → Reads → Kind → Type 0
WereRead before after names reads (Generated stages) =
    let held : Bytes → FileRead = λ bytes. if nat_le (length bytes) greatest then Whole bytes else TooLong in
    ForEach (λ file. reads file ≡ held (generated stages file)) (which.Netlist ∷ which.Workload ∷ which.Rates ∷ which.Points ∷ [])
WereRead before after names reads kind = ForEach (λ file. WasRead before after (names file) (reads file)) (files_of kind)

-- the bytes that were read
abbrev pub bytes_of : FileRead → Bytes
bytes_of (Whole bytes) = bytes
bytes_of _ = []

-- what was read, with NEWRATES in the place of RATES, and the other way round
abbrev pub exchanged : Reads → Reads
exchanged reads =
    by_file (reads which.Netlist) (reads which.Workload) (reads which.NewRates) (reads which.Points) (reads which.Result) (reads which.First)
    (reads which.Second) (reads which.Rates) (reads which.Held)

-- ---- what the code has of it

-- bytes at hand, as a file of them is read
abbrev pub given : Bytes → FileRead
given bytes = if nat_le (length bytes) greatest then Whole bytes else TooLong

-- what was read of each file
abbrev pub reads_by : ReadsOf → Reads
reads_by reads = by_file reads.netlist reads.workload reads.rates reads.points reads.result reads.first reads.second reads.new_rates reads.held

-- what is known of a file by what was read of it
abbrev pub known_by : FileRead → Content
known_by (Whole bytes) = Held bytes
known_by _ = Unknown

-- what was read is of at most 2^26 bytes
abbrev pub IsShort : FileRead → Type 0
IsShort (Whole bytes) = length bytes ≤ greatest
IsShort _ = Unit {0}

abbrev pub AreShort : Reads → Type 0
AreShort reads = (file : Which) → IsShort (reads file)

-- the number of stages is one that `gen` takes
abbrev pub IsFitKind : Kind → Type 0
IsFitKind (Generated stages) = (1 ≤ stages) × (stages ≤ 1000)
IsFitKind _ = Unit {0}
