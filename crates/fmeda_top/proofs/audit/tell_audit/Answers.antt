use Rattle.std.proofs.Common.{◌≡◌, ◌∙◌, List, ap, refl, length}
use Rattle.std.specs.Prelude.{option_map}
use Rattle.std.proofs.lemmas.Result.{err_from_is_err_and}
use Rattle.campaign_plan.specs.Analysis.{batch_count}
use Rattle.fm_shelf.proofs.Sending.{sends_as}
use Rattle.commands.specs.declared.command.Task.TheVariants as task
use Rattle.refusals.specs.Texts.{audit_line}
use Rattle.result_file.specs.declared.Row.{Row}
use Rattle.row_audit.specs.Audited.{each_nth}
use Rattle.command_reads.specs.FirstRefusal.{Begun}
use Rattle.refusals.specs.declared.status.Status.TheVariants as status
use Rattle.fmeda_top.proofs.RowTexts.{checks_tell}
use Rattle.fmeda_top.proofs.Telling.{told}
use Rattle.fmeda_top.proofs.audit.tell_audit.Goals as goal

pub returns-in_err-check_rows : goal.returns-in_err-check_rows
returns-in_err-check_rows g c =
    let begun = c.args.begun.now in
    let p = err_from_is_err_and c.from_residual.result c.from_residual.ensures.1 in
    rw (p.1, p.2) (checks_tell c.args.every c.args.by begun.planned.plan begun.kept _ _ c.in_err-check_rows.ensures.checks)

pub returns : goal.returns
returns g c =
    let begun = c.args.begun.now in
    let count : c.audited-count.result ≡ length (each_nth c.args.every begun.kept.rows) =
    c.audited-count.ensures ∙ ap (λ (rows : List Row). length (each_nth c.args.every rows)) c.as_slice.ensures in
    told (task.Audit c.args.every c.args.by) (Begun begun.planned.plan begun.kept) _ _ (audit_line c.args.every (length (each_nth c.args.every begun.kept.rows)) (batch_count begun.planned.plan)) c.write_audit.result
    c.after_text.result (ap (option_map status.Disagrees) c.in_ok-check_rows.ensures.checks) refl (sends_as (λ j. audit_line c.args.every (count j) (c.batches.ensures.count j)) c.write_audit.ensures)
    c.after_text.ensures.done c.after_text.ensures.failed c.in_ok-check_rows.ensures.simulated
