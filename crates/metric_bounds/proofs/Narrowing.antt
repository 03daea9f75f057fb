-- The bounds narrow, and end exact.
use Rattle.std.proofs.Common.{◌≡◌, ◌∙◌, ap, ap₂, List, arith}
use Rattle.std.specs.Prelude.{Option, unwrap_or}
use Rattle.std.specs.Option.{option_or}
use Rattle.metric_sums.specs.declared.Fraction.{Fraction}
use Rattle.metric_sums.specs.declared.Sums.{Sums}
use Rattle.metric_sums.specs.Metrics.{lfm, spfm_permanent, spfm_transient, term}
use Rattle.campaign_plan.specs.Analysis.{Analysis, batch_count}
use Rattle.campaign_plan.specs.Batches.{Entry, total}
use Rattle.fmeda_report.specs.Report.{all_sums}
use Rattle.result_file.specs.RowPlanes.{Planes}
use Rattle.metric_bounds.specs.declared.End.{End}
use Rattle.metric_bounds.specs.declared.End.TheVariants.{Best, Worst, MostLatent}
use Rattle.metric_bounds.specs.declared.Ends.{Ends}
use Rattle.metric_bounds.specs.Missing.{AgreeWith, planes_when_missing, planes_at_end}
use Rattle.metric_bounds.specs.Laws.{AreEnds, AreWithin, BoundsEndExact, BoundsNarrow, IsKeptIn}
use Rattle.metric_bounds.proofs.Bounding.{bounds}
use Rattle.metric_bounds.proofs.Ending.{same_below}
use Rattle.fm_base.proofs.Options.{or_same}

agree_first : (first later : List Entry) (planes : Planes) → IsKeptIn first later → AgreeWith later planes → AgreeWith first planes
agree_first first later planes kept agree = λ batch own e. agree batch own (kept batch own e)

within : (p : Analysis) (first later : List Entry) (metric : Sums → Option Fraction) (ends now : Ends) → IsKeptIn first later
    → AreEnds p first metric ends → AreEnds p later metric now → AreWithin ends now
within p first later metric ends now kept before after = record {
  least = λ value is. (let by = after.least in before.between by.0 (agree_first first later by.0 kept by.1) value (by.2 ∙ is));
  greatest = λ value is. (let by = after.greatest in before.between by.0 (agree_first first later by.0 kept by.1) value (by.2 ∙ is));
}

pub narrows : BoundsNarrow
narrows p first later kept =
    let before = bounds p first in
    let after = bounds p later in
    let low = after.term.least in
    let high = after.term.greatest in
    record {
      spfm_permanent = within p first later spfm_permanent _ _ kept before.spfm_permanent after.spfm_permanent;
      spfm_transient = within p first later spfm_transient _ _ kept before.spfm_transient after.spfm_transient;
      lfm = within p first later lfm _ _ kept before.lfm after.lfm;
      least_term = (let above = before.term.above low.0 (agree_first first later low.0 kept low.1) in omega (arith, above, low.2));
      greatest_term = (let below = before.term.below high.0 (agree_first first later high.0 kept high.1) in omega (arith, below, high.2));
    }

pub exact : BoundsEndExact
exact p entries planes each = record {
  spfm_permanent = record { least = ap spfm_permanent (at Worst); greatest = ap spfm_permanent (at Best) };
  spfm_transient = record { least = ap spfm_transient (at Worst); greatest = ap spfm_transient (at Best) };
  lfm = record {
    least = ap₂ (λ most best. option_or (lfm most) (lfm best)) (at MostLatent) (at Best) ∙ or_same (lfm (all_sums p planes));
    greatest = ap lfm (at Best);
  };
  least_term = ap term (at Best);
  greatest_term = ap term (at Worst);
}
  where
    at : (end : End) → all_sums p (planes_at_end p entries end) ≡ all_sums p planes
    at end =
        ap (total p) (same_below (λ batch. (batch, planes_at_end p entries end batch)) (λ batch. (batch, planes batch)) (batch_count p)
        (λ k lt. ap (λ kept. (k, unwrap_or kept (planes_when_missing p end k))) (each k lt)))
