use Rattle.std.proofs.Common.{ap, refl, subst, sym}
use Rattle.fm_shelf.specs.Outside.{Outside, outside}
use Rattle.commands.specs.declared.command.Task.{Task}
use Rattle.commands.specs.declared.command.Task.TheVariants as task
use Rattle.commands.specs.declared.command.Which.TheVariants as which
use Rattle.commands.specs.Commands.{name_by}
use Rattle.command_reads.specs.declared.judge.Judged.TheVariants as made
use Rattle.command_reads.specs.Judging.{made_by}
use Rattle.fmeda_top.specs.Doing.{DoesAs, IsReady}
use Rattle.fmeda_top.specs.Words.{WaitsForNobody}
use Rattle.fmeda_top.proofs.Writing.{told_does}
use Rattle.fmeda_top.proofs.perform.do_task.Goals as goal

pub run_on-ran-requires-clause-held : goal.run_on-ran-requires-clause-held
run_on-ran-requires-clause-held g c κs within =
    let held = (g.F.Shelf.seen c.args.shelf).content (name_by c.args.names.now which.Result) in
    let own = subst (IsReady held c.requires.ready.0) c.into_begun-begun.ensures c.requires.ready.1 in
    (c.requires.ready.0, own.0.0, own.1)

pub run_anew-ran-requires-clause-turn : goal.run_anew-ran-requires-clause-turn
run_anew-ran-requires-clause-turn g c κs within = λ several. c.requires.turn (λ alone. several (subst WaitsForNobody c.in-Run.is alone))

pub run_anew-ran-requires-in-Gen-clause-turn : goal.run_anew-ran-requires-in-Gen-clause-turn
run_anew-ran-requires-in-Gen-clause-turn g c κs within = λ several. c.requires.turn (λ alone. several (subst WaitsForNobody c.in-Gen.is alone))

pub run_on-ran-requires-clause-turn : goal.run_on-ran-requires-clause-turn
run_on-ran-requires-clause-turn g c κs within = λ several. c.requires.turn (λ alone. several (subst WaitsForNobody c.in-Resume.is alone))

pub returns-in-Run : goal.returns-in-Run
returns-in-Run g c =
    let names = name_by c.args.names.now in
    let held = (g.F.Shelf.seen c.args.shelf).content (names which.Result) in
    let before : Outside = outside (g.F.Shelf.seen c.args.shelf) (g.O.Sink.seen c.args.out.now) in
    let after : Outside = outside (g.F.Shelf.seen c.run_anew-ran.result.shelf) (g.O.Sink.seen c.run_anew-ran.new.out) in
    λ reads set ready.
    let own = subst (IsReady held reads) c.planned-plan.ensures ready in
    told_does names set c.args.task.now (task.Run c.in-Run.workers) c.args.judged (made.Planned c.planned-plan.result.now) reads c.ended.result.status before c.in-Run.is c.planned-plan.ensures
    after (g.F.Shelf.seen c.ended.result.shelf) (g.O.Sink.seen c.ended.new.out) c.run_anew-ran.result.end refl refl refl (c.run_anew-ran.ensures reads own.0) c.ended.ensures.said
    (ap g.F.Shelf.seen c.ended.ensures.shelf)

pub returns-in-Gen : goal.returns-in-Gen
returns-in-Gen g c =
    let names = name_by c.args.names.now in
    let held = (g.F.Shelf.seen c.args.shelf).content (names which.Result) in
    let before : Outside = outside (g.F.Shelf.seen c.args.shelf) (g.O.Sink.seen c.args.out.now) in
    let after : Outside = outside (g.F.Shelf.seen c.run_anew-ran-in-Gen.result.shelf) (g.O.Sink.seen c.run_anew-ran-in-Gen.new.out) in
    λ reads set ready.
    let own = subst (IsReady held reads) c.planned-plan-in-Gen.ensures ready in
    told_does names set c.args.task.now (task.Gen c.in-Gen.stages c.in-Gen.workers) c.args.judged (made.Planned c.planned-plan-in-Gen.result.now) reads c.ended-in-Gen.result.status before c.in-Gen.is c.planned-plan-in-Gen.ensures
    after (g.F.Shelf.seen c.ended-in-Gen.result.shelf) (g.O.Sink.seen c.ended-in-Gen.new.out) c.run_anew-ran-in-Gen.result.end refl refl refl (c.run_anew-ran-in-Gen.ensures reads own.0) c.ended-in-Gen.ensures.said
    (ap g.F.Shelf.seen c.ended-in-Gen.ensures.shelf)

pub returns-in-Resume : goal.returns-in-Resume
returns-in-Resume g c =
    let names = name_by c.args.names.now in
    let held = (g.F.Shelf.seen c.args.shelf).content (names which.Result) in
    let before : Outside = outside (g.F.Shelf.seen c.args.shelf) (g.O.Sink.seen c.args.out.now) in
    let after : Outside = outside (g.F.Shelf.seen c.run_on-ran.result.shelf) (g.O.Sink.seen c.run_on-ran.new.out) in
    λ reads set ready.
    let own = subst (IsReady held reads) c.into_begun-begun.ensures ready in
    told_does names set c.args.task.now (task.Resume c.in-Resume.workers) c.args.judged (made.Begun c.into_begun-begun.result) reads c.ended-in-Resume.result.status before c.in-Resume.is c.into_begun-begun.ensures
    after (g.F.Shelf.seen c.ended-in-Resume.result.shelf) (g.O.Sink.seen c.ended-in-Resume.new.out) c.run_on-ran.result.end refl refl refl (c.run_on-ran.ensures reads own.0.0 own.1) c.ended-in-Resume.ensures.said
    (ap g.F.Shelf.seen c.ended-in-Resume.ensures.shelf)

pub returns-in-Shard : goal.returns-in-Shard
returns-in-Shard g c =
    let held = (g.F.Shelf.seen c.args.shelf).content (name_by c.args.names.now which.Result) in
    λ reads set ready. subst (λ (asked : Task). DoesAs (record { files = name_by c.args.names.now; settings = set; task = asked }) (made_by c.args.judged) reads
    c.do_share.result.status (outside (g.F.Shelf.seen c.args.shelf) (g.O.Sink.seen c.args.out.now)) (outside (g.F.Shelf.seen c.do_share.result.shelf) (g.O.Sink.seen c.do_share.new.out)))
    (sym c.in-Shard.is) (c.do_share.ensures held reads set ready)

pub returns-in_default : goal.returns-in_default
returns-in_default g c =
    let held = (g.F.Shelf.seen c.args.shelf).content (name_by c.args.names.now which.Result) in
    λ reads set ready. c.do_at_once.ensures held reads set ready
