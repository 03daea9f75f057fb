use Rattle.std.proofs.Common.{refl}
use Rattle.coverage.specs.Coverage.{coverage}
use Rattle.commands.specs.declared.command.Task.TheVariants as task
use Rattle.command_reads.specs.FirstRefusal.{Planned}
use Rattle.fmeda_top.proofs.Telling.{told_after}
use Rattle.fmeda_top.proofs.reading_texts.tell_coverage.Goals as goal

pub returns : goal.returns
returns g c =
    told_after (task.Coverage c.args.workers) (Planned c.args.planned.now.plan) _ _ (coverage c.args.planned.now.plan) c.write_coverage.result c.after_readings.result refl refl
    c.write_coverage.ensures.wrote c.write_coverage.ensures.grows c.write_coverage.ensures.failed c.write_coverage.ensures.memory c.after_readings.ensures tt
