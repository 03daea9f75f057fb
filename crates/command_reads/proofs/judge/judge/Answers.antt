use Rattle.std.proofs.lemmas.Result.{err_from_is_err_and}
use Rattle.commands.specs.declared.command.Kind.TheVariants as kind
use Rattle.command_reads.specs.declared.judge.Judged.TheVariants as made
use Rattle.command_reads.specs.Files.{reads_by}
use Rattle.command_reads.proofs.Judging.{made_as, refused_as}
use Rattle.command_reads.proofs.judge.judge.Goals as goal

pub returns-in_err-judge_reweighed-in-Reweighed : goal.returns-in_err-judge_reweighed-in-Reweighed
returns-in_err-judge_reweighed-in-Reweighed c =
    let p = err_from_is_err_and c.from_residual.result c.from_residual.ensures.1 in
    rw (p.1, p.2) (refused_as c.args.netlist.now c.args.settings (reads_by c.args.reads) c.args.kind kind.Reweighed c.in-Reweighed.is _ c.in_err-judge_reweighed-in-Reweighed.ensures.reweighs)

pub returns-in_ok-judge_reweighed-in-Reweighed : goal.returns-in_ok-judge_reweighed-in-Reweighed
returns-in_ok-judge_reweighed-in-Reweighed c = made_as c.args.netlist.now c.args.settings (reads_by c.args.reads) c.args.kind kind.Reweighed c.in-Reweighed.is (made.Reweighed c.in_ok-judge_reweighed-in-Reweighed.field-0) c.in_ok-judge_reweighed-in-Reweighed.ensures.reweighs tt c.in_ok-judge_reweighed-in-Reweighed.ensures.sound
