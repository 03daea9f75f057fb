use Rattle.std.proofs.Common.{◌∷◌, [], ap, ◌∙◌}
use Rattle.std.specs.Prelude.{codes, decimal}
use Rattle.std.proofs.lemmas.Result.{err_from_is_err_and}
use Rattle.fm_base.specs.Names.{Bytes}
use Rattle.fm_base.specs.Text.{line}
use Rattle.fmeda_report.specs.Report.{summary, sizes_line, metric_lines, all_sums}
use Rattle.fmeda_report.specs.Tallies.{planes_in_order}
use Rattle.fm_shelf.proofs.Sending.{sends_as, sends_stop, sends_then}
use Rattle.fmeda_report.proofs.report.summarize_for.Goals as goal

-- the first line for a word, and the last
title : Bytes → Bytes
title word = line (codes "gen" ∷ word ∷ [])

abbrev last : Bytes
last = line (codes "end" ∷ [])

pub returns-in_err-write_line : goal.returns-in_err-write_line
unfolding summary title
returns-in_err-write_line g c =
    let e = err_from_is_err_and c.from_residual.result c.from_residual.ensures.1 in
    let p = c.args.plan.now in
    let metrics = metric_lines p.settings.asil (all_sums p (planes_in_order c.args.planes.now)) in
    let word = c.bytes.ensures ∙ c.number_word.ensures ∙ ap decimal c.from.ensures in
    rw e.1 (sends_stop last e.0 (sends_stop metrics e.0 (sends_stop (sizes_line p) e.0 (sends_as (ap title word) c.in_err-write_line.ensures))))

pub returns-in_err-write_sizes : goal.returns-in_err-write_sizes
unfolding summary title
returns-in_err-write_sizes g c =
    let e = err_from_is_err_and c.from_residual-in_err-write_sizes.result c.from_residual-in_err-write_sizes.ensures.1 in
    let p = c.args.plan.now in
    let metrics = metric_lines p.settings.asil (all_sums p (planes_in_order c.args.planes.now)) in
    let word = c.bytes.ensures ∙ c.number_word.ensures ∙ ap decimal c.from.ensures in
    rw e.1 (sends_stop last e.0 (sends_stop metrics e.0 (sends_then (sends_as (ap title word) c.in_ok-write_line.ensures) c.in_err-write_sizes.ensures)))

pub returns-in_err-write_metrics : goal.returns-in_err-write_metrics
unfolding summary title
returns-in_err-write_metrics g c =
    let e = err_from_is_err_and c.from_residual-in_err-write_metrics.result c.from_residual-in_err-write_metrics.ensures.1 in
    let word = c.bytes.ensures ∙ c.number_word.ensures ∙ ap decimal c.from.ensures in
    rw e.1 (sends_stop last e.0 (sends_then (sends_then (sends_as (ap title word) c.in_ok-write_line.ensures) c.in_ok-write_sizes.ensures)
    (sends_as (λ j. metric_lines (c.settings.ensures.value j).asil (c.all_sums.ensures.sums j)) c.in_err-write_metrics.ensures)))

pub returns : goal.returns
unfolding summary title
returns g c =
    let word = c.bytes.ensures ∙ c.number_word.ensures ∙ ap decimal c.from.ensures in
    sends_then (sends_then (sends_then (sends_as (ap title word) c.in_ok-write_line.ensures) c.in_ok-write_sizes.ensures)
    (sends_as (λ j. metric_lines (c.settings.ensures.value j).asil (c.all_sums.ensures.sums j)) c.in_ok-write_metrics.ensures))
    c.write_line-2.ensures
