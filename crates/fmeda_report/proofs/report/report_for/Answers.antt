use Rattle.std.proofs.Common.{◌∷◌, []}
use Rattle.std.specs.Prelude.{codes}
use Rattle.std.specs.List.{flat_map}
use Rattle.std.proofs.lemmas.Result.{err_from_is_err_and}
use Rattle.fm_base.specs.Lists.{below}
use Rattle.fm_base.specs.Names.{Bytes}
use Rattle.fm_base.specs.Text.{line}
use Rattle.campaign_plan.specs.Analysis.{Analysis, fault_count, part_count}
use Rattle.fmeda_report.specs.Report.{report, sizes_line, part_line, metric_lines, all_sums, fault_line}
use Rattle.result_file.specs.RowPlanes.{Planes}
use Rattle.fmeda_report.specs.Tallies.{planes_in_order}
use Rattle.fm_shelf.proofs.Sending.{sends_as, sends_stop, sends_then}
use Rattle.fmeda_report.proofs.report.report_for.Goals as goal

-- what follows the title and the sizes
abbrev parts : Analysis → Planes → Bytes
parts p planes = flat_map (part_line p planes) (below (part_count p))

abbrev metrics : Analysis → Planes → Bytes
metrics p planes = metric_lines p.settings.asil (all_sums p planes)

abbrev faults : Analysis → Planes → Bytes
faults p planes = flat_map (fault_line p planes) (below (fault_count p))

abbrev last : Bytes
last = line (codes "end" ∷ [])

pub returns-in_err-write_line : goal.returns-in_err-write_line
unfolding report
returns-in_err-write_line g c =
    let e = err_from_is_err_and c.from_residual.result c.from_residual.ensures.1 in
    let p = c.args.plan.now in
    let planes = planes_in_order c.args.planes.now in
    rw e.1 (sends_stop last e.0 (sends_stop (faults p planes) e.0 (sends_stop (metrics p planes) e.0 (sends_stop (parts p planes) e.0
    (sends_stop (sizes_line p) e.0 c.in_err-write_line.ensures)))))

pub returns-in_err-write_sizes : goal.returns-in_err-write_sizes
unfolding report
returns-in_err-write_sizes g c =
    let e = err_from_is_err_and c.from_residual-in_err-write_sizes.result c.from_residual-in_err-write_sizes.ensures.1 in
    let p = c.args.plan.now in
    let planes = planes_in_order c.args.planes.now in
    rw e.1 (sends_stop last e.0 (sends_stop (faults p planes) e.0 (sends_stop (metrics p planes) e.0 (sends_stop (parts p planes) e.0
    (sends_then c.in_ok-write_line.ensures c.in_err-write_sizes.ensures)))))

pub returns-in_err-write_parts : goal.returns-in_err-write_parts
unfolding report
returns-in_err-write_parts g c =
    let e = err_from_is_err_and c.from_residual-in_err-write_parts.result c.from_residual-in_err-write_parts.ensures.1 in
    let p = c.args.plan.now in
    let planes = planes_in_order c.args.planes.now in
    rw e.1 (sends_stop last e.0 (sends_stop (faults p planes) e.0 (sends_stop (metrics p planes) e.0
    (sends_then (sends_then c.in_ok-write_line.ensures c.in_ok-write_sizes.ensures) (c.in_err-write_parts.ensures planes c.requires.tallied)))))

pub returns-in_err-write_metrics : goal.returns-in_err-write_metrics
unfolding report
returns-in_err-write_metrics g c =
    let e = err_from_is_err_and c.from_residual-in_err-write_metrics.result c.from_residual-in_err-write_metrics.ensures.1 in
    let p = c.args.plan.now in
    let planes = planes_in_order c.args.planes.now in
    rw e.1 (sends_stop last e.0 (sends_stop (faults p planes) e.0
    (sends_then (sends_then (sends_then c.in_ok-write_line.ensures c.in_ok-write_sizes.ensures) (c.in_ok-write_parts.ensures planes c.requires.tallied))
    (sends_as (λ j. metric_lines (c.settings.ensures.value j).asil (c.all_sums.ensures.sums j)) c.in_err-write_metrics.ensures))))

pub returns-in_err-write_faults : goal.returns-in_err-write_faults
unfolding report
returns-in_err-write_faults g c =
    let e = err_from_is_err_and c.from_residual-in_err-write_faults.result c.from_residual-in_err-write_faults.ensures.1 in
    let planes = planes_in_order c.args.planes.now in
    rw e.1 (sends_stop last e.0 (sends_then
    (sends_then (sends_then (sends_then c.in_ok-write_line.ensures c.in_ok-write_sizes.ensures) (c.in_ok-write_parts.ensures planes c.requires.tallied))
    (sends_as (λ j. metric_lines (c.settings.ensures.value j).asil (c.all_sums.ensures.sums j)) c.in_ok-write_metrics.ensures))
    c.in_err-write_faults.ensures))

pub returns : goal.returns
unfolding report
returns g c =
    let planes = planes_in_order c.args.planes.now in
    sends_then (sends_then
    (sends_then (sends_then (sends_then c.in_ok-write_line.ensures c.in_ok-write_sizes.ensures) (c.in_ok-write_parts.ensures planes c.requires.tallied))
    (sends_as (λ j. metric_lines (c.settings.ensures.value j).asil (c.all_sums.ensures.sums j)) c.in_ok-write_metrics.ensures))
    c.in_ok-write_faults.ensures) c.write_line-2.ensures
