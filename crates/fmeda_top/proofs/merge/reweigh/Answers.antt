use Rattle.std.proofs.Common.{subst}
use Rattle.fm_shelf.specs.Outside.{outside}
use Rattle.commands.specs.declared.command.Task.TheVariants as task
use Rattle.command_reads.specs.FirstRefusal.{Reweighed}
use Rattle.fmeda_top.specs.Doing.{HasEnded}
use Rattle.fmeda_top.proofs.merge.reweigh.Goals as goal

pub returns : goal.returns
returns g c = λ reads sound.
    subst
    (λ rows. HasEnded c.write_file.result task.Reweigh (Reweighed c.args.reweighed.now.planned.plan rows) reads c.args.name.now
    (outside (g.F.Shelf.seen c.args.shelf.now) (g.O.Sink.seen c.args.out.now)) (outside (g.F.Shelf.seen c.write_file.new.shelf) (g.O.Sink.seen c.write_file.new.out)))
    c.as_slice-rows.ensures (c.write_file.ensures reads sound)
