use Rattle.std.proofs.Common.{ap, ap₂, ◌∙◌}
use Rattle.campaign_plan.specs.declared.Settings.{Settings}
use Rattle.fmeda_report.specs.Report.{all_sums}
use Rattle.fmeda_report.specs.Tallies.{planes_in_order}
use Rattle.fm_shelf.proofs.Sending.{sends_as}
use Rattle.metric_coverage.specs.Text.{found_by}
use Rattle.metric_coverage.proofs.Numbers.{found_told}
use Rattle.metric_coverage.proofs.metrics.write_found_lines.Goals as goal

pub returns : goal.returns
returns g c =
    let p = c.args.plan.now in
    sends_as (ap₂ found_by (ap (λ (set : Settings). set.asil) c.settings.ensures.value) c.found_sums-sums.ensures.sums
    ∙ found_told p (all_sums p (planes_in_order c.args.planes.now)))
    c.write_found.ensures
