use Rattle.std.proofs.Common.{Err, ap}
use Rattle.fm_shelf.specs.Past.{gave_from}
use Rattle.fm_shelf.proofs.Reading.{gives_all}
use Rattle.command_reads.proofs.Reading.{read_whole}
use Rattle.command_reads.proofs.files.read_file.Goals as goal

pub returns-in-Ok-clause-read : goal.returns-in-Ok-clause-read
returns-in-Ok-clause-read g c =
    let before = g.F.Shelf.seen c.args.shelf.now in
    let after = g.F.Shelf.seen c.read_all.new.shelf in
    let e = c.in-Ok.ensures in
    read_whole before after c.args.name.now c.in-Ok.bytes e.ok e.absent e.short e.given

pub returns-in-Err-TooLong-clause-read : goal.returns-in-Err-TooLong-clause-read
returns-in-Err-TooLong-clause-read g c =
    let before = g.F.Shelf.seen c.args.shelf.now in
    let after = g.F.Shelf.seen c.read_all.new.shelf in
    let e = c.in-Err-TooLong.ensures in
    let is = ap (λ why. Err why) c.in-Err-TooLong.field-0-is in
    let long = e.gave_more is in
    (e.too_long is, (long.0, long.1, gives_all before after c.args.name.now (gave_from 0 long.0) long.2))
