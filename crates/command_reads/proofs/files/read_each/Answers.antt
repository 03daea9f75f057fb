use Rattle.std.proofs.Common.{get_or, refl, subst}
use Rattle.fm_shelf.specs.Shelf.{OnlyReads}
use Rattle.commands.specs.Commands.{name_by}
use Rattle.commands.specs.declared.command.Which.TheVariants.{Netlist}
use Rattle.command_reads.specs.Files.{WasRead, reads_by}
use Rattle.command_reads.proofs.Reading.{more_read, short_more, read_more, read_all_of}
use Rattle.command_reads.proofs.files.read_each.Goals as goal

pub loop-file-preserved : goal.loop-file-preserved
loop-file-preserved g c =
    let seen = g.F.Shelf.seen in
    let before = seen c.args.shelf.now in
    let mid = seen c.loop-file.shelf in
    let after = seen c.read_file.new.shelf in
    let names = name_by c.args.names.now in
    let old = reads_by c.loop-file.reads in
    let new = reads_by c.put.new.self in
    let file = get_or c.args.files.now c.loop-file.file-index Netlist in
    let read = c.in_ok-read_file.field-0 in
    let so_far = c.loop-file.invariant in
    let next = subst (OnlyReads mid after) c.of.ensures c.in_ok-read_file.ensures.rest in
    let was = subst (λ name. WasRead mid after name read) c.of.ensures c.in_ok-read_file.ensures.read in
    record {
      only = more_read so_far.only next;
      short = short_more before mid after names old new file read so_far.only next was c.put.ensures.put c.put.ensures.others so_far.short;
      read = read_more before mid after names old new file read so_far.only next was c.put.ensures.put c.put.ensures.others
          c.args.files.now c.loop-file.file-index c.loop-file-test.true refl so_far.read;
    }

pub returns-in_err-read_file-clause-rest : goal.returns-in_err-read_file-clause-rest
returns-in_err-read_file-clause-rest g c =
    more_read c.loop-file.invariant.only c.in_err-read_file.ensures.rest

pub returns-clause-read : goal.returns-clause-read
returns-clause-read g c =
    read_all_of (g.F.Shelf.seen c.args.shelf.now) (g.F.Shelf.seen c.loop-file.shelf) (name_by c.args.names.now) (reads_by c.loop-file.reads) c.args.files.now
    c.loop-file.file-index c.loop-file-test.false c.loop-file.invariant.read
