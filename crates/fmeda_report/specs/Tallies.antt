-- What the faults of a part amount to, in all and by their class: how a report keeps the counts and the weights of a part.
use Rattle.std.specs.Prelude.{◌≡◌, ℕ, ◌+◌, ◌<◌, ◌≤◌, ◌^◌, List, filter, length, count_by, sum_by, slice_index_or}
use Rattle.metric_sums.specs.declared.Class.{Class}
use Rattle.metric_sums.specs.declared.Class.TheVariants.{Safe, Detected, Residual, SinglePoint, Latent, Outside}
use Rattle.metric_sums.specs.Classes.{is_class}
use Rattle.campaign_plan.specs.declared.Outcome.{Outcome}
use Rattle.campaign_plan.specs.Analysis.{Analysis, part_count}
use Rattle.campaign_plan.specs.Batches.{class_of_fault}
use Rattle.campaign_plan.specs.Weights.{weight}
use Rattle.result_file.specs.RowPlanes.{Planes}
use Rattle.fmeda_report.specs.Steps.{faults_of_part}
use Rattle.fmeda_report.specs.declared.tally.Amount.{Amount}
use Rattle.fmeda_report.specs.declared.tally.Tally.{Tally}

-- the planes that stand at the number of each batch
abbrev pub planes_in_order : List Outcome → Planes
planes_in_order planes batch = slice_index_or planes batch (record { danger = 0; noticed = 0 })

-- the number and the weight of the faults of a class, among some faults
abbrev pub amount_of : Analysis → Planes → List ℕ → Class → Amount
amount_of p planes faults class = record {
  faults = count_by (λ i. is_class (class_of_fault p planes i) class) faults;
  weight = sum_by (weight p) (filter (λ i. is_class (class_of_fault p planes i) class) faults);
}

-- some faults, in all and by their class
abbrev pub tally_of : Analysis → Planes → List ℕ → Tally
tally_of p planes faults = record {
  all = record { faults = length faults; weight = sum_by (weight p) faults };
  safe = amount_of p planes faults Safe;
  detected = amount_of p planes faults Detected;
  residual = amount_of p planes faults Residual;
  single_point = amount_of p planes faults SinglePoint;
  latent = amount_of p planes faults Latent;
  outside = amount_of p planes faults Outside;
}

-- no fault
abbrev pub empty_tally : Tally
empty_tally = record {
  all = record { faults = 0; weight = 0 };
  safe = record { faults = 0; weight = 0 };
  detected = record { faults = 0; weight = 0 };
  residual = record { faults = 0; weight = 0 };
  single_point = record { faults = 0; weight = 0 };
  latent = record { faults = 0; weight = 0 };
  outside = record { faults = 0; weight = 0 };
}

-- the tally of a part
abbrev pub tally_at : List Tally → ℕ → Tally
tally_at tallies k = slice_index_or tallies k empty_tally

-- one fault of this weight more
abbrev pub one_more_fault : ℕ → Amount → Amount
one_more_fault weight amount = record { faults = amount.faults + 1; weight = amount.weight + weight }

-- one fault of this class and weight more
abbrev pub with_fault : Class → ℕ → Tally → Tally
with_fault Safe w t = record t { all = one_more_fault w t.all; safe = one_more_fault w t.safe }
with_fault Detected w t = record t { all = one_more_fault w t.all; detected = one_more_fault w t.detected }
with_fault Residual w t = record t { all = one_more_fault w t.all; residual = one_more_fault w t.residual }
with_fault SinglePoint w t = record t { all = one_more_fault w t.all; single_point = one_more_fault w t.single_point }
with_fault Latent w t = record t { all = one_more_fault w t.all; latent = one_more_fault w t.latent }
with_fault Outside w t = record t { all = one_more_fault w t.all; outside = one_more_fault w t.outside }

-- at most 2^20 faults, of at most 10^18 units together
pub record IsSmall (amount : Amount) : Type 0 where
  pub few : amount.faults ≤ 2 ^ 20
  pub light : amount.weight ≤ 10 ^ 18

-- so in all and in each class
pub record AreAmountsSmall (t : Tally) : Type 0 where
  pub all : IsSmall t.all
  pub safe : IsSmall t.safe
  pub detected : IsSmall t.detected
  pub residual : IsSmall t.residual
  pub single_point : IsSmall t.single_point
  pub latent : IsSmall t.latent
  pub outside : IsSmall t.outside

-- each part of the plan has the tally of its faults
pub record AreTallied (p : Analysis) (planes : Planes) (tallies : List Tally) : Type 0 where
  pub each : (k : ℕ) → k < part_count p → tally_at tallies k ≡ tally_of p planes (faults_of_part p k)
