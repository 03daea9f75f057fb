use Rattle.std.proofs.lemmas.Result.{err_from_is_err_and}
use Rattle.commands.specs.declared.command.Kind.TheVariants as kind
use Rattle.command_reads.specs.declared.judge.Judged.TheVariants as made
use Rattle.command_reads.specs.Answers.{generated_settings}
use Rattle.command_reads.specs.Files.{reads_by}
use Rattle.command_reads.proofs.Judging.{generated_is, made_as, planned_as, planned_is, refused_as, unplanned_as}
use Rattle.command_reads.proofs.judge.judge_as_read.Goals as goal

pub returns-in_err-judge_observed-in-Observed : goal.returns-in_err-judge_observed-in-Observed
returns-in_err-judge_observed-in-Observed c =
    let p = err_from_is_err_and c.from_residual.result c.from_residual.ensures.1 in
    rw (p.1, p.2) (refused_as c.args.netlist.now c.args.settings (reads_by c.args.reads.now) c.args.kind kind.Observed c.in-Observed.is _ (c.in_err-judge_observed-in-Observed.ensures.observes c.args.settings))

pub returns-in_err-judge_driven-in-Driven : goal.returns-in_err-judge_driven-in-Driven
returns-in_err-judge_driven-in-Driven c =
    let p = err_from_is_err_and c.from_residual-in_err-judge_driven-in-Driven.result c.from_residual-in_err-judge_driven-in-Driven.ensures.1 in
    rw (p.1, p.2) (refused_as c.args.netlist.now c.args.settings (reads_by c.args.reads.now) c.args.kind kind.Driven c.in-Driven.is _ c.in_err-judge_driven-in-Driven.ensures.drives)

pub returns-in_err-judge_rated-in-Rated : goal.returns-in_err-judge_rated-in-Rated
returns-in_err-judge_rated-in-Rated c =
    let p = err_from_is_err_and c.from_residual-in_err-judge_rated-in-Rated.result c.from_residual-in_err-judge_rated-in-Rated.ensures.1 in
    rw (p.1, p.2) (refused_as c.args.netlist.now c.args.settings (reads_by c.args.reads.now) c.args.kind kind.Rated c.in-Rated.is _ (c.in_err-judge_rated-in-Rated.ensures c.args.settings))

pub returns-in_err-judge_plan-in-Planned : goal.returns-in_err-judge_plan-in-Planned
returns-in_err-judge_plan-in-Planned c =
    let p = err_from_is_err_and c.from_residual-in_err-judge_plan-in-Planned.result c.from_residual-in_err-judge_plan-in-Planned.ensures.1 in
    rw (p.1, p.2) (unplanned_as c.args.netlist.now c.args.settings (reads_by c.args.reads.now) c.args.kind kind.Planned c.in-Planned.is c.args.settings (planned_is c.args.netlist.now c.args.settings (reads_by c.args.reads.now)) _ c.in_err-judge_plan-in-Planned.ensures.plans)

pub returns-in_err-generated_plan-in-Generated : goal.returns-in_err-generated_plan-in-Generated
returns-in_err-generated_plan-in-Generated c =
    let p = err_from_is_err_and c.from_residual-in_err-generated_plan-in-Generated.result c.from_residual-in_err-generated_plan-in-Generated.ensures.1 in
    rw (p.1, p.2) (unplanned_as c.args.netlist.now c.args.settings (reads_by c.args.reads.now) c.args.kind _ c.in-Generated.is generated_settings (generated_is c.args.netlist.now c.args.settings (reads_by c.args.reads.now) _) _ c.in_err-generated_plan-in-Generated.ensures.plans)

pub returns-in_ok-judge_observed-in-Observed : goal.returns-in_ok-judge_observed-in-Observed
returns-in_ok-judge_observed-in-Observed c = made_as c.args.netlist.now c.args.settings (reads_by c.args.reads.now) c.args.kind kind.Observed c.in-Observed.is (made.Observed c.in_ok-judge_observed-in-Observed.field-0) (c.in_ok-judge_observed-in-Observed.ensures.observes c.args.settings) tt c.in_ok-judge_observed-in-Observed.ensures.sound

pub returns-in_ok-judge_driven-in-Driven : goal.returns-in_ok-judge_driven-in-Driven
returns-in_ok-judge_driven-in-Driven c = made_as c.args.netlist.now c.args.settings (reads_by c.args.reads.now) c.args.kind kind.Driven c.in-Driven.is (made.Driven c.in_ok-judge_driven-in-Driven.field-0) c.in_ok-judge_driven-in-Driven.ensures.drives tt c.in_ok-judge_driven-in-Driven.ensures.sound

pub returns-in_ok-judge_rated-in-Rated : goal.returns-in_ok-judge_rated-in-Rated
returns-in_ok-judge_rated-in-Rated c = made_as c.args.netlist.now c.args.settings (reads_by c.args.reads.now) c.args.kind kind.Rated c.in-Rated.is (made.Rated c.in_ok-judge_rated-in-Rated.field-0) (c.in_ok-judge_rated-in-Rated.ensures c.args.settings) tt tt

pub returns-in_ok-judge_plan-in-Planned : goal.returns-in_ok-judge_plan-in-Planned
returns-in_ok-judge_plan-in-Planned c = planned_as c.args.netlist.now c.args.settings (reads_by c.args.reads.now) c.args.kind kind.Planned c.in-Planned.is c.args.settings (planned_is c.args.netlist.now c.args.settings (reads_by c.args.reads.now)) c.in_ok-judge_plan-in-Planned.field-0 c.in_ok-judge_plan-in-Planned.ensures.plans tt c.in_ok-judge_plan-in-Planned.ensures.sound

pub returns-in_ok-judge_begun-in-Begun : goal.returns-in_ok-judge_begun-in-Begun
returns-in_ok-judge_begun-in-Begun c = made_as c.args.netlist.now c.args.settings (reads_by c.args.reads.now) c.args.kind kind.Begun c.in-Begun.is (made.Begun c.in_ok-judge_begun-in-Begun.field-0) c.in_ok-judge_begun-in-Begun.ensures.begins tt c.in_ok-judge_begun-in-Begun.ensures.sound

pub returns-in_ok-judge_merged-in-Merged : goal.returns-in_ok-judge_merged-in-Merged
returns-in_ok-judge_merged-in-Merged c = made_as c.args.netlist.now c.args.settings (reads_by c.args.reads.now) c.args.kind kind.Merged c.in-Merged.is (made.Merged c.in_ok-judge_merged-in-Merged.field-0) c.in_ok-judge_merged-in-Merged.ensures.merges tt c.in_ok-judge_merged-in-Merged.ensures.sound

pub returns-in_ok-judge_supposed-in-Supposed : goal.returns-in_ok-judge_supposed-in-Supposed
returns-in_ok-judge_supposed-in-Supposed c = made_as c.args.netlist.now c.args.settings (reads_by c.args.reads.now) c.args.kind kind.Supposed c.in-Supposed.is (made.Supposed c.in_ok-judge_supposed-in-Supposed.field-0) c.in_ok-judge_supposed-in-Supposed.ensures.supposes tt c.in_ok-judge_supposed-in-Supposed.ensures.sound

pub returns-in_ok-generated_plan-in-Generated : goal.returns-in_ok-generated_plan-in-Generated
returns-in_ok-generated_plan-in-Generated c = planned_as c.args.netlist.now c.args.settings (reads_by c.args.reads.now) c.args.kind _ c.in-Generated.is generated_settings (generated_is c.args.netlist.now c.args.settings (reads_by c.args.reads.now) _) c.in_ok-generated_plan-in-Generated.field-0 c.in_ok-generated_plan-in-Generated.ensures.plans tt c.in_ok-generated_plan-in-Generated.ensures.sound
