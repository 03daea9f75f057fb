use Rattle.std.proofs.Common.{inr}
use Rattle.fm_shelf.specs.Outside.{Outside, outside}
use Rattle.commands.specs.declared.command.Which.TheVariants as which
use Rattle.command_reads.specs.Files.{bytes_of}
use Rattle.fmeda_top.proofs.Writing.{on_ended}
use Rattle.fmeda_top.proofs.run.run_on.Goals as goal

pub run_campaign-ran-requires-clause-kept : goal.run_campaign-ran-requires-clause-kept
run_campaign-ran-requires-clause-kept g c κs within =
    let held = c.requires.held in
    rw c.new-campaign.ensures (inr (bytes_of (held.0 which.Result), held.2.0, held.2.1))

pub returns : goal.returns
returns g c =
    let before : Outside = outside (g.F.Shelf.seen c.args.shelf) (g.O.Sink.seen c.args.out.now) in
    let after : Outside = outside (g.F.Shelf.seen c.run_campaign-ran.result.shelf) (g.O.Sink.seen c.run_campaign-ran.new.out) in
    λ reads sound held.
    on_ended c.stopped_are_taken_up.ensures c.args.begun reads c.args.name.now c.args.workers before sound held c.run_campaign-ran.result.end after
    (rw c.new-campaign.ensures at c.run_campaign-ran.ensures.run)
