use Rattle.std.proofs.Common.{ap}
use Rattle.std.proofs.lemmas.Result.{err_from_is_err_and}
use Rattle.metric_sums.specs.Metrics.{targets_of}
use Rattle.fmeda_report.specs.Steps.{ratio_lines, target_lines}
use Rattle.fmeda_report.proofs.Grouping.{metrics_in_groups}
use Rattle.fm_shelf.proofs.Sending.{sends_as, sends_stop, sends_then}
use Rattle.fmeda_report.proofs.metrics.write_metrics.Goals as goal

pub returns-in_err-write_sums : goal.returns-in_err-write_sums
returns-in_err-write_sums g c =
    let p = err_from_is_err_and c.from_residual.result c.from_residual.ensures.1 in
    let targets = target_lines (targets_of c.args.asil c.args.sums.now) in
    rw p.1 (sends_as (metrics_in_groups c.args.asil c.args.sums.now)
    (sends_stop targets p.0 (sends_stop (ratio_lines c.args.sums.now) p.0 c.in_err-write_sums.ensures)))

pub returns-in_err-write_ratios : goal.returns-in_err-write_ratios
returns-in_err-write_ratios g c =
    let p = err_from_is_err_and c.from_residual-in_err-write_ratios.result c.from_residual-in_err-write_ratios.ensures.1 in
    let targets = target_lines (targets_of c.args.asil c.args.sums.now) in
    rw p.1 (sends_as (metrics_in_groups c.args.asil c.args.sums.now)
    (sends_stop targets p.0 (sends_then c.in_ok-write_sums.ensures c.in_err-write_ratios.ensures)))

pub returns : goal.returns
returns g c =
    sends_as (metrics_in_groups c.args.asil c.args.sums.now)
    (sends_then (sends_then c.in_ok-write_sums.ensures c.in_ok-write_ratios.ensures)
    (sends_as (ap target_lines c.targets.ensures) c.write_targets.ensures))
