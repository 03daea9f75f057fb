use Rattle.std.proofs.Common.{refl, subst}
use Rattle.fm_shelf.specs.Outside.{Outside, outside}
use Rattle.commands.specs.declared.command.Task.TheVariants as task
use Rattle.commands.specs.Commands.{name_by}
use Rattle.command_reads.specs.declared.judge.Judged.TheVariants as made
use Rattle.command_reads.specs.Judging.{made_by}
use Rattle.fmeda_top.specs.Doing.{IsReady}
use Rattle.fmeda_top.proofs.Answering.{answered_does}
use Rattle.fmeda_top.proofs.Printing.{printed_does}
use Rattle.fmeda_top.proofs.Writing.{does_by, told_does}
use Rattle.fmeda_top.proofs.perform.do_at_once.Goals as goal

pub returns-in-Merge : goal.returns-in-Merge
returns-in-Merge g c =
    let names = name_by c.args.names.now in
    let both = c.merged.result.now in
    let shelf = g.F.Shelf.seen c.merge-end.new.shelf in
    let before : Outside = outside (g.F.Shelf.seen c.args.shelf) (g.O.Sink.seen c.args.out.now) in
    let after : Outside = outside shelf (g.O.Sink.seen c.merge-end.new.out) in
    let out = g.O.Sink.seen c.say_end-status.new.out in
    λ held reads set ready.
    let own = subst (IsReady held reads) c.merged.ensures ready in
    told_does names set c.args.task.now task.Merge c.args.judged.now (made.Merged both) reads c.say_end-status.result before c.in-Merge.is c.merged.ensures
    after shelf out c.merge-end.result refl refl refl (c.merge-end.ensures reads own.0) c.say_end-status.ensures refl

pub returns-in-Reweigh : goal.returns-in-Reweigh
returns-in-Reweigh g c =
    let names = name_by c.args.names.now in
    let it = c.reweighed.result.now in
    let shelf = g.F.Shelf.seen c.reweigh-end.new.shelf in
    let before : Outside = outside (g.F.Shelf.seen c.args.shelf) (g.O.Sink.seen c.args.out.now) in
    let after : Outside = outside shelf (g.O.Sink.seen c.reweigh-end.new.out) in
    λ held reads set ready.
    let own = subst (IsReady held reads) c.reweighed.ensures ready in
    told_does names set c.args.task.now task.Reweigh c.args.judged.now (made.Reweighed it) reads c.say_end-status-in-Reweigh.result before c.in-Reweigh.is c.reweighed.ensures
    after shelf (g.O.Sink.seen c.say_end-status-in-Reweigh.new.out) c.reweigh-end.result refl refl refl (c.reweigh-end.ensures reads own.0) c.say_end-status-in-Reweigh.ensures refl

pub returns-in_default : goal.returns-in_default
returns-in_default g c =
    let out = g.O.Sink.seen c.args.out.now in
    let mid = g.O.Sink.seen c.print-told.new.out in
    let now = g.O.Sink.seen c.printed-status-in_default.new.out in
    λ held reads set ready.
    printed_does (record { files = name_by c.args.names.now; settings = set; task = c.args.task.now }) (made_by c.args.judged.now) reads (g.F.Shelf.seen c.args.shelf)
    out mid now c.printed-status-in_default.result c.print-told.result c.print-told.ensures c.printed-status-in_default.ensures

pub returns-in-Always : goal.returns-in-Always
returns-in-Always g c =
    let names = name_by c.args.names.now in
    let own = c.supposed.result.now in
    let shelf = g.F.Shelf.seen c.args.shelf in
    let out = g.O.Sink.seen c.args.out.now in
    let mid = g.O.Sink.seen c.tell_always-told.new.out in
    let now = g.O.Sink.seen c.printed-status.new.out in
    λ held reads set ready.
    does_by names set c.args.task.now (task.Always c.in-Always.window c.in-Always.ahead) c.args.judged.now (made.Supposed own) reads c.printed-status.result (outside shelf out)
    c.in-Always.is c.supposed.ensures (outside shelf now)
    (answered_does names set c.in-Always.window c.in-Always.ahead own.plan own.held reads shelf out mid now c.printed-status.result c.tell_always-told.result
    c.tell_always-told.ensures c.printed-status.ensures)
