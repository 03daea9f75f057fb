use Rattle.std.proofs.Common.{ap, refl, subst}
use Rattle.fm_shelf.specs.Outside.{Outside, outside}
use Rattle.commands.specs.declared.command.Task.TheVariants as task
use Rattle.commands.specs.Commands.{name_by}
use Rattle.command_reads.specs.declared.judge.Judged.TheVariants as made
use Rattle.fmeda_top.specs.Doing.{IsReady}
use Rattle.fmeda_top.proofs.Writing.{told_does}
use Rattle.fmeda_top.proofs.perform.do_share.Goals as goal

pub returns : goal.returns
returns g c =
    let names = name_by c.args.names.now in
    let before : Outside = outside (g.F.Shelf.seen c.args.shelf) (g.O.Sink.seen c.args.out.now) in
    let after : Outside = outside (g.F.Shelf.seen c.run_share-ran.result.shelf) (g.O.Sink.seen c.run_share-ran.new.out) in
    λ held reads set ready.
    let own = subst (IsReady held reads) c.planned.ensures ready in
    told_does names set (task.Shard c.args.part c.args.parts) (task.Shard c.args.part c.args.parts) c.args.judged.now (made.Planned c.planned.result.now) reads c.ended.result.status before
    refl c.planned.ensures after (g.F.Shelf.seen c.ended.result.shelf) (g.O.Sink.seen c.ended.new.out) c.run_share-ran.result.end refl refl refl (c.run_share-ran.ensures reads own.0)
    c.ended.ensures.said (ap g.F.Shelf.seen c.ended.ensures.shelf)
