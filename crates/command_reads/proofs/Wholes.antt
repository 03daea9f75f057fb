-- What a file that was read whole comes to.
use Rattle.std.proofs.Common.{◌≡◌, ap, refl, subst, ◌≤◌, length}
use Rattle.std.specs.Prelude.{Ok, Err}
use Rattle.fm_base.specs.Names.{Bytes}
use Rattle.fm_shelf.specs.Content.{Held, greatest}
use Rattle.commands.specs.declared.command.Which.{Which}
use Rattle.refusals.specs.declared.status.Status.TheVariants as status
use Rattle.refusals.proofs.Refusals.{ok_same}
use Rattle.command_reads.specs.declared.files.FileRead.{FileRead}
use Rattle.command_reads.specs.declared.files.FileRead.TheVariants.{Whole, TooLong, Failed}
use Rattle.command_reads.specs.Files.{Reads, AreShort, IsShort, known_by}
use Rattle.command_reads.specs.FirstRefusal.{whole}

of_whole : {P : Bytes → Type 0} (file : Which) (read : FileRead) (bytes : Bytes) → ((held : Bytes) → read ≡ Whole held → P held)
    → whole file (λ other. read) ≡ Ok bytes → P bytes
of_whole {P = P} file (Whole held) bytes holds is = subst P (ok_same (Ok held) held bytes refl is) (holds held refl)
of_whole file TooLong bytes holds is = let bad : Err (status.TooLong file) ≡ Ok bytes = is in cc bad
of_whole file Failed bytes holds is = let bad : Err (status.ReadFault file) ≡ Ok bytes = is in cc bad

-- its bytes are those that are known
pub known_whole : (file : Which) (reads : Reads) (bytes : Bytes) → whole file reads ≡ Ok bytes → known_by (reads file) ≡ Held bytes
known_whole file reads bytes is =
    of_whole {P = λ held. known_by (reads file) ≡ Held held} file (reads file) bytes (λ held same. ap known_by same) is

-- they are at most 2^26
pub short_whole : (file : Which) (reads : Reads) (bytes : Bytes) → AreShort reads → whole file reads ≡ Ok bytes → length bytes ≤ greatest
short_whole file reads bytes short is =
    of_whole {P = λ held. length held ≤ greatest} file (reads file) bytes (λ held same. subst IsShort same (short file)) is
