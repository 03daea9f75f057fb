use Rattle.std.proofs.Common.{◌∙◌, Err, ap, inl, inr, subst, sym}
use Rattle.std.proofs.lemmas.Result.{err_from_is_err_and}
use Rattle.commands.specs.Commands.{name_by}
use Rattle.command_reads.specs.Files.{IsFitKind, WereRead, reads_by}
use Rattle.command_reads.specs.Judging.{JudgesAs}
use Rattle.fmeda_top.proofs.Ending.{fit_kind}
use Rattle.fmeda_top.proofs.prepare.prepared.Goals as goal

pub read_files-requires : goal.read_files-requires
read_files-requires g c = subst IsFitKind (sym c.kind-kind.ensures) (fit_kind c.args.task.now c.requires.fit)

pub returns-clause-prepared : goal.returns-clause-prepared
returns-clause-prepared g c =
    let names = name_by c.args.names.now in
    let reads = reads_by c.in_ok-reads.reads in
    inr (
      reads,
      (
        subst (λ own. WereRead (g.F.Shelf.seen c.args.shelf.now) (g.F.Shelf.seen c.read_files.new.shelf) names reads own) c.kind-kind.ensures c.in_ok-reads.ensures.read,
        subst (λ own. JudgesAs c.args.names.now.netlist.now c.args.settings reads own c.judge.result) c.kind-kind.ensures c.judge.ensures,
      ),
    )

pub returns-in_err-reads-clause-prepared : goal.returns-in_err-reads-clause-prepared
returns-in_err-reads-clause-prepared g c =
    let p = err_from_is_err_and c.from_residual.result c.from_residual.ensures.1 in
    inl (c.in_err-reads.field-0.0, p.1 ∙ ap (λ refused. Err refused) p.2)
