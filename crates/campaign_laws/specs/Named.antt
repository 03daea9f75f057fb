-- The faults that a report names, one a line, and what their weights add up to.
use Rattle.std.specs.Prelude.{◌≡◌, ℕ, Bool, not, ◌&&◌, ◌||◌, List, [], ◌∷◌, filter, flat_map, sum_by, decimal}
use Rattle.circuit.specs.Effects.{is_permanent}
use Rattle.fault_list.specs.Faults.{fault_name}
use Rattle.fm_base.specs.Lists.{below}
use Rattle.fm_base.specs.Names.{Bytes}
use Rattle.fm_base.specs.Text.{line}
use Rattle.metric_sums.specs.declared.Class.TheVariants.{Latent}
use Rattle.metric_sums.specs.Classes.{is_class, is_danger}
use Rattle.campaign_plan.specs.Analysis.{Analysis, fault_count, fault_numbered}
use Rattle.campaign_plan.specs.Batches.{class_of_fault}
use Rattle.campaign_plan.specs.Weights.{weight}
use Rattle.fmeda_report.specs.Report.{all_sums, fault_line}
use Rattle.result_file.specs.RowPlanes.{Planes}
use Rattle.metric_sums.specs.Words.{class_word}

-- the faults that the report names, in list order: those that are residual, single-point or latent
abbrev pub named_faults : Analysis → Planes → List ℕ
named_faults p planes = filter (λ i. is_danger (class_of_fault p planes i) || is_class (class_of_fault p planes i) Latent) (below (fault_count p))

-- the line of a named fault: its class, its name and its weight
abbrev pub named_line : Analysis → Planes → ℕ → Bytes
named_line p planes i = line (class_word (class_of_fault p planes i) ∷ fault_name p.circuit (fault_numbered p i) ∷ decimal (weight p i) ∷ [])

-- the weights of those named faults that pass a test, added up
abbrev pub named_weight : Analysis → Planes → (ℕ → Bool) → ℕ
named_weight p planes test = sum_by (weight p) (filter test (named_faults p planes))

-- lines: the lines of faults in the report are those of the named ones
-- permanent: the weights of the residual and single-point lines of stuck-at faults add up to the danger of the line of permanent faults
-- transient: those of flips and pulses to that of transient faults
-- latent: the weights of the latent lines add up to latent
pub record NamedAddUp (p : Analysis) (planes : Planes) : Type 0 where
  pub lines : flat_map (fault_line p planes) (below (fault_count p)) ≡ flat_map (named_line p planes) (named_faults p planes)
  pub permanent : named_weight p planes (λ i. is_danger (class_of_fault p planes i) && is_permanent (fault_numbered p i)) ≡ (all_sums p planes).permanent_danger
  pub transient : named_weight p planes (λ i. is_danger (class_of_fault p planes i) && not (is_permanent (fault_numbered p i))) ≡ (all_sums p planes).transient_danger
  pub latent : named_weight p planes (λ i. is_class (class_of_fault p planes i) Latent) ≡ (all_sums p planes).latent

-- THE NAMED WEIGHTS ADD UP, whatever the planes
abbrev pub NamedWeightsAddUp : Type 0
NamedWeightsAddUp = (p : Analysis) (planes : Planes) → NamedAddUp p planes
