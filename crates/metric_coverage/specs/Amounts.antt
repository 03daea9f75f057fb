-- How many faults are free, and what they weigh, fault by fault.
use Rattle.std.specs.Prelude.{ℕ, ◌+◌, ◌≤◌, ◌^◌, Bool, true, false, filter, length, sum_by}
use Rattle.circuit.specs.Effects.{is_permanent}
use Rattle.fm_base.specs.Lists.{below, same_bit}
use Rattle.campaign_plan.specs.Analysis.{Analysis, fault_numbered}
use Rattle.campaign_plan.specs.Weights.{weight}
use Rattle.metric_coverage.specs.declared.amount.Amount.{Amount}

-- those of the first n faults that are free
abbrev pub weight_free : Analysis → (ℕ → Bool) → Bool → ℕ → ℕ
weight_free p free permanent n = sum_by (weight p) (filter (λ i. same_bit (is_permanent (fault_numbered p i)) permanent) (filter free (below n)))

abbrev pub amount_below : Analysis → (ℕ → Bool) → ℕ → Amount
amount_below p free n = record {
  faults = length (filter free (below n));
  permanent = weight_free p free true n;
  transient = weight_free p free false n;
}

-- no fault, and one of this weight more
abbrev pub no_amount : Amount
no_amount = record { faults = 0; permanent = 0; transient = 0 }

abbrev pub with_free : Bool → ℕ → Amount → Amount
with_free true w a = record { faults = a.faults + 1; permanent = a.permanent + w; transient = a.transient }
with_free false w a = record { faults = a.faults + 1; permanent = a.permanent; transient = a.transient + w }

-- at most 2^20 faults, of at most 10^18 units of each kind
pub record IsAmountSmall (a : Amount) : Type 0 where
  pub faults : a.faults ≤ 2 ^ 20
  pub permanent : a.permanent ≤ 10 ^ 18
  pub transient : a.transient ≤ 10 ^ 18
