use Rattle.std.proofs.Common.{subst, sym}
use Rattle.std.proofs.lemmas.Result.{err_from_is_err_and}
use Rattle.campaign_plan.specs.Kept.{AreSettings}
use Rattle.command_reads.specs.Answers.{IsSound}
use Rattle.command_reads.specs.Files.{AreShort, reads_by}
use Rattle.command_reads.proofs.Renewing.{reweighed_as, short_exchanged, stay_as, unweighed_as}
use Rattle.command_reads.proofs.reweighed.judge_reweighed.Goals as goal

pub returns-in_err-kept-clause-reweighs : goal.returns-in_err-kept-clause-reweighs
returns-in_err-kept-clause-reweighs c =
    let p = err_from_is_err_and c.from_residual-in_err-kept.result c.from_residual-in_err-kept.ensures.1 in
    rw (p.1, p.2) c.in_err-kept.ensures

pub returns-in-Ok-clause-reweighs : goal.returns-in-Ok-clause-reweighs
returns-in-Ok-clause-reweighs c =
    reweighed_as c.args.netlist.now c.args.set c.in_ok-again.again (reads_by c.args.reads) (reads_by c.exchanged-reads.result) c.in_ok-kept.kept c.as_slice.result.now
    c.in_ok-kept.ensures c.in_ok-again.ensures c.exchanged-reads.ensures c.as_slice.ensures c.in-Ok.made c.in-Ok.ensures.weighs

pub returns-clause-reweighs : goal.returns-clause-reweighs
returns-clause-reweighs c =
    rw c.refused_of_new.ensures
    (unweighed_as c.args.netlist.now c.args.set c.in_ok-again.again (reads_by c.args.reads) (reads_by c.exchanged-reads.result) c.in_ok-kept.kept c.as_slice.result.now
    c.in_ok-kept.ensures c.in_ok-again.ensures c.exchanged-reads.ensures c.as_slice.ensures c.in-Err.refused c.in-Err.ensures.weighs)

pub returns-in-Ok-clause-sound : goal.returns-in-Ok-clause-sound
returns-in-Ok-clause-sound c = subst (λ r. IsSound r c.in-Ok.made.planned) c.exchanged-reads.ensures c.in-Ok.ensures.sound

pub weighed_by-requires-clause-settings : goal.weighed_by-requires-clause-settings
weighed_by-requires-clause-settings c = subst AreSettings (sym c.in_ok-again.ensures) c.requires.settings

pub weighed_by-requires-clause-short : goal.weighed_by-requires-clause-short
weighed_by-requires-clause-short c = subst AreShort (sym c.exchanged-reads.ensures) (short_exchanged (reads_by c.args.reads) c.requires.short)

pub weighed_by-requires-clause-distinct : goal.weighed_by-requires-clause-distinct
weighed_by-requires-clause-distinct c =
    stay_as c.args.netlist.now c.args.set c.in_ok-again.again (reads_by c.args.reads) (reads_by c.exchanged-reads.result) c.in_ok-kept.kept c.as_slice.result.now
    c.in_ok-kept.ensures c.in_ok-again.ensures c.exchanged-reads.ensures c.as_slice.ensures
