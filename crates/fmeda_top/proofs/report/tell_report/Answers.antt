use Rattle.std.proofs.Common.{◌∙◌, ap, refl, length}
use Rattle.fmeda_report.specs.Report.{report, true_report}
use Rattle.fmeda_report.specs.Tallies.{planes_in_order}
use Rattle.fm_shelf.proofs.Sending.{sends_as}
use Rattle.fmeda_report.proofs.TrueReport.{true_count, true_in_order}
use Rattle.commands.specs.declared.command.Task.TheVariants as task
use Rattle.command_reads.specs.FirstRefusal.{Planned}
use Rattle.fmeda_top.proofs.Telling.{told}
use Rattle.fmeda_top.proofs.report.tell_report.Goals as goal

pub write_report-requires-clause-planes : goal.write_report-requires-clause-planes
write_report-requires-clause-planes g c = ap length (c.as_slice.ensures ∙ c.in_ok-planes.ensures) ∙ true_count c.args.planned.now.plan

pub returns : goal.returns
returns g c =
    let p = c.args.planned.now.plan in
    let truly = ap planes_in_order (c.as_slice.ensures ∙ c.in_ok-planes.ensures) ∙ true_in_order p in
    told task.Report (Planned p) _ _ (true_report p) c.write_report.result c.after_text.result refl refl
    (sends_as (ap (report p) truly) c.write_report.ensures.report) c.after_text.ensures.done c.after_text.ensures.failed tt
