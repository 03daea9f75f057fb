use Rattle.fmeda_report.proofs.TrueReport.{rows_report_truly as law}
use Rattle.fmeda_report.proofs.law.rows_report_truly.Goals as goal

pub returns : goal.returns
returns c = law
