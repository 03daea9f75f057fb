-- The report of rows, in any order.
use Rattle.std.specs.Prelude.{◌≡◌, ℕ, List, map}
use Rattle.campaign_plan.specs.Analysis.{Analysis}
use Rattle.campaign_plan.specs.Batches.{AreTrue, true_planes}
use Rattle.result_file.specs.declared.Row.{Row}
use Rattle.result_file.specs.KeptRows.{entry_of}
use Rattle.result_file.specs.RowPlanes.{HoldEachOnce, planes_in}
use Rattle.fmeda_report.specs.Report.{report, true_report, summary}

-- the report and the summary of these rows are those of one thread that takes the faults in order
pub record ReportTruly (p : Analysis) (rows : List Row) : Type 0 where
  pub same_report : report p (planes_in rows) ≡ true_report p
  pub same_summary : (n : ℕ) → summary n p (planes_in rows) ≡ summary n p (true_planes p)

-- WHERE EACH ROW HAS THE PLANES THAT ITS BATCH TRULY HAS, the report is the true one, in whatever order the rows stand
abbrev pub RowsReportTruly : Type 0
RowsReportTruly = (p : Analysis) (rows : List Row) → HoldEachOnce p rows → AreTrue p (map entry_of rows) → ReportTruly p rows
