use Rattle.fmeda_report.specs.Report.{metric_lines}
use Rattle.fm_shelf.proofs.Sending.{sends_as, sends_then}
use Rattle.metric_breakdown.proofs.text.write_lines.Goals as goal

pub returns : goal.returns
returns g c = sends_then c.in_ok-write_reading.ensures (sends_as (λ j. metric_lines (c.settings.ensures.value j).asil c.args.sums.now) c.write_metrics.ensures)
