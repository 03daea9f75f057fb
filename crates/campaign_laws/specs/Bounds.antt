-- What `progress` prints of a campaign that isn't whole holds what `report` prints at its end: of the two texts.
use Rattle.std.specs.Prelude.{◌≤◌, List, IfSome, Option}
use Rattle.metric_sums.specs.declared.Fraction.{Fraction}
use Rattle.fm_base.specs.Names.{Bytes}
use Rattle.campaign_plan.specs.Analysis.{Analysis}
use Rattle.campaign_plan.specs.Batches.{Entry}
use Rattle.result_file.specs.declared.KeptRows.{KeptRows}
use Rattle.result_file.specs.KeptRows.{kept_entries}
use Rattle.fmeda_report.specs.Report.{report}
use Rattle.result_file.specs.RowPlanes.{Planes}
use Rattle.campaign_run.specs.Found.{checkpointed_or_true}
use Rattle.metric_bounds.specs.declared.Ends.{Ends}
use Rattle.metric_bounds.specs.Laws.{IsBetween}
use Rattle.metric_bounds.specs.Missing.{AgreeWith}
use Rattle.metric_bounds.specs.Progress.{progress}
use Rattle.campaign_laws.specs.Prints.{Bounds, Metrics, Prints, bounds_text, metrics_text}

-- a metric that has a value has it between the two numbers, which are both there
abbrev pub IsHeld : Ends → Option Fraction → Type 0
IsHeld ends value = IfSome value (IsBetween ends)

-- bounded: one text prints two numbers for each metric
-- printed: the other prints the metrics
-- and each metric lies between its numbers
pub record HoldsMetrics (progress_text report_text : Bytes) : Type 0 where
  pub bounds : Bounds
  pub metrics : Metrics
  pub bounded : Prints progress_text (bounds_text bounds)
  pub printed : Prints report_text (metrics_text metrics)
  pub spfm_permanent : IsHeld bounds.spfm_permanent metrics.spfm_permanent
  pub spfm_transient : IsHeld bounds.spfm_transient metrics.spfm_transient
  pub lfm : IsHeld bounds.lfm metrics.lfm
  pub least_term : bounds.least_term ≤ metrics.term
  pub greatest_term : metrics.term ≤ bounds.greatest_term

-- ends: THE PRINTED BOUNDS HOLD THE PRINTED METRICS, whatever planes the missing batches turn out to have
-- resumed: so of the report that `resume` prints of the same file
pub record TextsHold (p : Analysis) : Type 0 where
  pub ends : (entries : List Entry) (planes : Planes) → AgreeWith entries planes → HoldsMetrics (progress p entries) (report p planes)
  pub resumed : (k : KeptRows) → HoldsMetrics (progress p (kept_entries k)) (report p (checkpointed_or_true p k))

abbrev pub PrintedBoundsHold : Type 0
PrintedBoundsHold = (p : Analysis) → TextsHold p
