-- The bounds between which each metric ends, whatever the missing batches give, as the laws name them: steps of `progress`, whose ends and
-- standings `coverage` prints too. The metrics are those of ISO 26262-5:2018.
use Rattle.std.specs.Prelude.{ℕ, Bool, List, Option, Some, None, if◌then◌else◌, nat_lt}
use Rattle.std.specs.Option.{option_or}
use Rattle.metric_sums.specs.declared.Asil.{Asil}
use Rattle.metric_sums.specs.declared.Fraction.{Fraction}
use Rattle.metric_sums.specs.declared.Sums.{Sums}
use Rattle.metric_sums.specs.Metrics.{lfm, meets, pmhf_target, term}
use Rattle.campaign_plan.specs.Analysis.{Analysis}
use Rattle.campaign_plan.specs.Batches.{Entry}
use Rattle.fmeda_report.specs.Report.{all_sums}
use Rattle.metric_bounds.specs.declared.End.TheVariants.{Best, Worst, MostLatent}
use Rattle.metric_bounds.specs.declared.Ends.{Ends}
use Rattle.metric_bounds.specs.declared.EndSums.{EndSums}
use Rattle.metric_bounds.specs.declared.Standing.{Standing}
use Rattle.metric_bounds.specs.declared.Standing.TheVariants.{Met, Missed, Open}
use Rattle.metric_bounds.specs.Missing.{planes_at_end}

-- the five sums over all batches at each end
abbrev pub end_sums : Analysis → List Entry → EndSums
end_sums p entries = record {
  best = all_sums p (planes_at_end p entries Best);
  worst = all_sums p (planes_at_end p entries Worst);
  most_latent = all_sums p (planes_at_end p entries MostLatent);
}

-- a single-point fault metric is least where each missing fault is dangerous, and greatest where none is
abbrev pub spfm_ends : (Sums → Option Fraction) → EndSums → Ends
spfm_ends spfm s = record { least = spfm s.worst; greatest = spfm s.best }

-- The latent fault metric is least where the missing faults are most latent. Where it has no value there, since all faults are then
-- dangerous, no planes have a latent fault, and each value is that at best.
abbrev pub lfm_ends : EndSums → Ends
lfm_ends s = record { least = option_or (lfm s.most_latent) (lfm s.best); greatest = lfm s.best }

-- how a target stands, by whether the worst and the best value meet it
abbrev pub standing : (worst best : Bool) → Standing
standing worst best = if worst then Met else if best then Open else Missed

-- how a percentage stands: nothing where the metric has no value in any planes
abbrev pub ratio_standing : ℕ → (least greatest : Option Fraction) → Option Standing
ratio_standing percent (Some least) (Some greatest) = Some (standing (meets percent least) (meets percent greatest))
ratio_standing percent _ _ = None

abbrev pub standing_of : ℕ → Ends → Option Standing
standing_of percent ends = ratio_standing percent ends.least ends.greatest

-- how the limit of the single-point and residual term stands, which is greatest at worst and least at best
abbrev pub term_standing : Asil → EndSums → Standing
term_standing asil s = standing (nat_lt (term s.worst) (pmhf_target asil)) (nat_lt (term s.best) (pmhf_target asil))
