use Rattle.std.proofs.Common.{refl}
use Rattle.readings.specs.Latencies.{latencies}
use Rattle.commands.specs.declared.command.Task.TheVariants as task
use Rattle.command_reads.specs.FirstRefusal.{Planned}
use Rattle.fmeda_top.proofs.Telling.{told_after}
use Rattle.fmeda_top.proofs.reading_texts.tell_latencies.Goals as goal

pub returns : goal.returns
returns g c =
    told_after (task.Latencies c.args.workers) (Planned c.args.planned.now.plan) _ _ (latencies c.args.planned.now.plan) c.write_latencies.result c.after_readings.result refl refl
    c.write_latencies.ensures.wrote c.write_latencies.ensures.grows c.write_latencies.ensures.failed c.write_latencies.ensures.memory c.after_readings.ensures tt
