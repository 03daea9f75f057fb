use Rattle.std.proofs.Common.{take}
use Rattle.fm_shelf.specs.Shelf.{OnlyReadsAny}
use Rattle.commands.specs.Commands.{name_by}
use Rattle.command_reads.specs.Files.{AreShort, reads_by}
use Rattle.command_reads.proofs.Reading.{AllWereRead}
use Rattle.command_reads.proofs.files.read_each.Given as goal

-- the files so far were read
abbrev pub invariant-loop-file : goal.invariant-loop-file
invariant-loop-file g l = record {
  only : OnlyReadsAny (g.F.Shelf.seen l.initial.shelf) (g.F.Shelf.seen l.shelf);
  short : AreShort (reads_by l.reads);
  read : AllWereRead (g.F.Shelf.seen l.initial.shelf) (g.F.Shelf.seen l.shelf) (name_by l.names) (reads_by l.reads) (take l.file-index l.files);
}
