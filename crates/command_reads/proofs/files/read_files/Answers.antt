use Rattle.std.proofs.Common.{subst, sym}
use Rattle.std.proofs.lemmas.Result.{IfOk-weaker}
use Rattle.commands.specs.Commands.{name_by}
use Rattle.command_reads.specs.Files.{WereRead, reads_by}
use Rattle.command_reads.proofs.files.read_files.Goals as goal

-- the generated texts stand for the files, whatever was read
pub returns-in-Generated-clause-read : goal.returns-in-Generated-clause-read
returns-in-Generated-clause-read g c =
    let before = g.F.Shelf.seen c.args.shelf.now in
    let names = name_by c.args.names.now in
    IfOk-weaker c.generated_reads.result _ (λ reads. WereRead before before names (reads_by reads) c.args.kind)
    (λ reads given. subst (WereRead before before names (reads_by reads)) (sym c.in-Generated.is) (given before before names)) c.generated_reads.ensures.read
