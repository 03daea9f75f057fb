use Rattle.std.proofs.Common.{◌∙◌, ap, ap₂, sym, length, map}
use Rattle.std.proofs.lemmas.Result.{err_from_is_err_and}
use Rattle.std.proofs.lemmas.List.{length-map}
use Rattle.campaign_plan.specs.Analysis.{batch_count}
use Rattle.campaign_plan.specs.declared.Settings.{Settings}
use Rattle.result_file.specs.KeptRows.{entry_of}
use Rattle.result_merge.proofs.Tabling.{length-table}
use Rattle.fm_shelf.proofs.Sending.{sends_as, sends_stop, sends_then}
use Rattle.metric_bounds.specs.Steps.{bound_lines, judged_lines, standing_lines}
use Rattle.metric_bounds.proofs.Grouping.{progress_in_groups}
use Rattle.metric_bounds.proofs.text.write_progress.Goals as goal

pub sums_at_ends-sums-requires : goal.sums_at_ends-sums-requires
sums_at_ends-sums-requires g c =
    ap length c.requires.table ∙ length-table (batch_count c.args.plan.now) (map entry_of c.args.rows.now)

pub returns-in_err-write_judged : goal.returns-in_err-write_judged
returns-in_err-write_judged g c =
    let p = err_from_is_err_and c.from_residual.result c.from_residual.ensures.1 in
    let entries = map entry_of c.args.rows.now in
    let sums = c.sums_at_ends-sums.ensures.sums entries c.requires.table in
    let rows = sym (length-map c.args.rows.now entry_of) in
    let batches = c.from-batches.ensures ∙ c.batches.ensures.count in
    rw p.1 (sends_as (progress_in_groups c.args.plan.now entries) (sends_stop _ p.0 (sends_stop _ p.0
    (sends_as (λ j. judged_lines (rows j) (batches j) (c.kept_sums-judged.ensures j) (sums j).best) c.in_err-write_judged.ensures))))

pub returns-in_err-write_bounds : goal.returns-in_err-write_bounds
returns-in_err-write_bounds g c =
    let p = err_from_is_err_and c.from_residual-in_err-write_bounds.result c.from_residual-in_err-write_bounds.ensures.1 in
    let entries = map entry_of c.args.rows.now in
    let sums = c.sums_at_ends-sums.ensures.sums entries c.requires.table in
    let rows = sym (length-map c.args.rows.now entry_of) in
    let batches = c.from-batches.ensures ∙ c.batches.ensures.count in
    rw p.1 (sends_as (progress_in_groups c.args.plan.now entries) (sends_stop _ p.0 (sends_then
    (sends_as (λ j. judged_lines (rows j) (batches j) (c.kept_sums-judged.ensures j) (sums j).best) c.in_ok-write_judged.ensures)
    (sends_as (ap bound_lines sums) c.in_err-write_bounds.ensures))))

pub returns : goal.returns
returns g c =
    let entries = map entry_of c.args.rows.now in
    let sums = c.sums_at_ends-sums.ensures.sums entries c.requires.table in
    let rows = sym (length-map c.args.rows.now entry_of) in
    let batches = c.from-batches.ensures ∙ c.batches.ensures.count in
    let asil = ap (λ (set : Settings). set.asil) c.settings.ensures.value in
    sends_as (progress_in_groups c.args.plan.now entries) (sends_then (sends_then
    (sends_as (λ j. judged_lines (rows j) (batches j) (c.kept_sums-judged.ensures j) (sums j).best) c.in_ok-write_judged.ensures)
    (sends_as (ap bound_lines sums) c.in_ok-write_bounds.ensures))
    (sends_as (ap₂ standing_lines asil sums) c.write_standings.ensures))
