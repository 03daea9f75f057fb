-- The sums over the first faults, whatever their classes.
use Rattle.std.proofs.Common.{◌≡◌, ℕ, ◌+◌, ◌≤◌, refl, ap, ◌∙◌, add-one, arith}
use Rattle.circuit.specs.Effects.{is_permanent}
use Rattle.fm_base.specs.Lists.{below}
use Rattle.fm_base.proofs.Below.{below_push}
use Rattle.fm_base.proofs.SumsBelow.{sum_by-below, sum_up-mono}
use Rattle.metric_sums.specs.declared.Class.{Class}
use Rattle.metric_sums.specs.Totals.{AreConsistent, no_sums, plus, sums_by}
use Rattle.metric_sums.proofs.Running.{sums_by_push}
use Rattle.metric_sums.proofs.Shares.{consistent_shares}
use Rattle.campaign_plan.specs.Analysis.{Analysis, fault_count, fault_numbered}
use Rattle.campaign_plan.specs.Kept.{IsPlan}
use Rattle.campaign_plan.specs.Laws.{fault_share}
use Rattle.campaign_plan.specs.Weights.{weight}
use Rattle.campaign_plan.proofs.Small.{weights_small}

module _ (p : Analysis) (class : ℕ → Class) where
  pub no_fault : no_sums ≡ sums_by (fault_share p class) (below 0)
  unfolding below
  no_fault = refl

  pub one_fault : (n : ℕ) → sums_by (fault_share p class) (below (n + 1)) ≡ plus (sums_by (fault_share p class) (below n)) (fault_share p class n)
  one_fault n =
      ap (λ k. sums_by (fault_share p class) (below k)) (add-one n) ∙ ap (sums_by (fault_share p class)) (below_push n)
      ∙ sums_by_push (fault_share p class) (below n) n

  -- they are consistent
  pub first_consistent : IsPlan p → (n : ℕ) → n ≤ fault_count p → AreConsistent (sums_by (fault_share p class) (below n))
  first_consistent plan n le =
      consistent_shares class (λ i. is_permanent (fault_numbered p i)) (weight p) (below n)
      (omega (arith, sum_by-below n (weight p), sum_up-mono n (fault_count p) (weight p) le, weights_small p plan.rates))
