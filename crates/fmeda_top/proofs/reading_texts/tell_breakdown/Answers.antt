use Rattle.std.proofs.Common.{refl}
use Rattle.readings.specs.Breakdown.{breakdown}
use Rattle.commands.specs.declared.command.Task.TheVariants as task
use Rattle.command_reads.specs.FirstRefusal.{Planned}
use Rattle.fmeda_top.proofs.Telling.{told_after}
use Rattle.fmeda_top.proofs.reading_texts.tell_breakdown.Goals as goal

pub returns : goal.returns
returns g c =
    told_after (task.Breakdown c.args.intervals.now c.args.workers) (Planned c.args.planned.now.plan) _ _ (breakdown c.args.planned.now.plan c.args.intervals.now) c.write_breakdown.result c.after_readings.result refl refl
    c.write_breakdown.ensures.wrote c.write_breakdown.ensures.grows c.write_breakdown.ensures.failed c.write_breakdown.ensures.memory c.after_readings.ensures tt
