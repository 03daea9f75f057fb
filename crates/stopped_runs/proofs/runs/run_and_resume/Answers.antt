use Rattle.fm_shelf.specs.Outside.{outside}
use Rattle.commands.specs.declared.command.Which.TheVariants as which
use Rattle.stopped_runs.proofs.Telling.{run_stopped, resume_stopped, resumed_last}
use Rattle.stopped_runs.proofs.runs.run_and_resume.Goals as goal

pub loop-stop-init : goal.loop-stop-init
loop-stop-init g c = λ campaign start is knows. run_stopped campaign start _ _ _ _ is _ c.in_ok-shelf.ensures

pub loop-stop-preserved : goal.loop-stop-preserved
loop-stop-preserved g c = λ campaign start is knows.
    resume_stopped campaign start _ _ _ _ is (g.F.Shelf.seen c.loop-stop.shelf) (knows c.loop-stop.shelf (campaign.files which.Result))
    (c.loop-stop.invariant campaign start is knows) _ c.in_ok-shelf-2.ensures

pub returns : goal.returns
returns g c = λ campaign start is knows.
    resumed_last campaign start _ _ _ _ is (g.F.Shelf.seen c.loop-stop.shelf) (knows c.loop-stop.shelf (campaign.files which.Result))
    (c.loop-stop.invariant campaign start is knows) c.fmeda.result.status (g.O.Sink.seen c.args.out.now)
    (outside (g.F.Shelf.seen c.fmeda.result.shelf) (g.O.Sink.seen c.fmeda.new.out)) c.fmeda.ensures.promises
