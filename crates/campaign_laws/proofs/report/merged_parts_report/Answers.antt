use Rattle.campaign_laws.proofs.Treeing.{parts_report}
use Rattle.campaign_laws.proofs.report.merged_parts_report.Goals as goal

pub returns : goal.returns
returns c = parts_report c.merges_are_lawful.ensures c.stopped_are_taken_up.ensures c.rows_report_truly.ensures
