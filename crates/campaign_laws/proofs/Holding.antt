-- The printed bounds hold the printed metrics.
use Rattle.std.proofs.Common.{◌≡◌, List, refl, ap}
use Rattle.std.specs.Prelude.{Option, Some, None, IfSome, unwrap_or}
use Rattle.campaign_plan.specs.Analysis.{Analysis}
use Rattle.campaign_plan.specs.Batches.{Entry, true_planes}
use Rattle.result_file.specs.KeptRows.{kept_entries}
use Rattle.fmeda_report.specs.Report.{all_sums, report}
use Rattle.result_file.specs.RowPlanes.{Planes}
use Rattle.campaign_run.specs.Found.{checkpointed_or_true}
use Rattle.metric_bounds.specs.Bounds.{end_sums}
use Rattle.metric_bounds.specs.Laws.{BoundsHold}
use Rattle.metric_bounds.specs.Missing.{AgreeWith}
use Rattle.metric_bounds.specs.Progress.{progress}
use Rattle.campaign_laws.specs.Bounds.{HoldsMetrics, PrintedBoundsHold}
use Rattle.campaign_laws.proofs.Printing.{bounds_of, metrics_of, progress_prints_bounds, report_prints_metrics}

if_some : {X : Type 0} (P : X → Type 0) (o : Option X) → ((x : X) → o ≡ Some x → P x) → IfSome o P
if_some P None each = tt
if_some P (Some x) each = each x refl

holds : BoundsHold → (p : Analysis) (entries : List Entry) (planes : Planes) → AgreeWith entries planes → HoldsMetrics (progress p entries) (report p planes)
holds law p entries planes agree =
    let are = law p entries in
    record {
      bounds = bounds_of (end_sums p entries);
      metrics = metrics_of (all_sums p planes);
      bounded = progress_prints_bounds p entries;
      printed = report_prints_metrics p planes;
      spfm_permanent = if_some _ _ (are.spfm_permanent.between planes agree);
      spfm_transient = if_some _ _ (are.spfm_transient.between planes agree);
      lfm = if_some _ _ (are.lfm.between planes agree);
      least_term = are.term.above planes agree;
      greatest_term = are.term.below planes agree;
    }

pub printed_bounds_hold : BoundsHold → PrintedBoundsHold
printed_bounds_hold law p = record {
  ends = holds law p;
  resumed = λ k. holds law p (kept_entries k) (checkpointed_or_true p k) (λ batch own e. ap (λ o. unwrap_or o (true_planes p batch)) e);
}
