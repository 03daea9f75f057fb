-- How many faults are free, and what they weigh, fault by fault.
use Rattle.std.proofs.Common.{◌≡◌, ℕ, ◌+◌, ◌≤◌, ◌^◌, Bool, true, false, cond, List, length, refl, ap, sym, ◌∙◌, add-one, arith}
use Rattle.std.specs.Prelude.{filter, if◌then◌else◌}
use Rattle.std.specs.List.{sum_by}
use Rattle.std.proofs.lemmas.List.FromFn.{length-range_with_len}
use Rattle.std.proofs.lemmas.List.Sums.{count_by-le-length, length-filter, sum_by_push}
use Rattle.circuit.specs.Effects.{is_permanent}
use Rattle.fm_base.specs.Lists.{below, same_bit}
use Rattle.fm_base.proofs.Below.{below_push, count_below}
use Rattle.fm_base.proofs.SumsBelow.{sum_by-filter, where_true}
use Rattle.rate_table.specs.Table.{IsRateTable}
use Rattle.campaign_plan.specs.Analysis.{Analysis, fault_count, fault_numbered}
use Rattle.campaign_plan.specs.Weights.{weight}
use Rattle.metric_coverage.specs.declared.amount.Amount.{Amount}
use Rattle.metric_coverage.specs.Amounts.{IsAmountSmall, amount_below, no_amount, weight_free, with_free}
use Rattle.metric_coverage.proofs.Weighing.{weight_least, weights_below}

-- the weight of those that pass two tests, with one number more
both_more : (test free : ℕ → Bool) (w : ℕ → ℕ) (n : ℕ)
    → sum_by w (filter test (filter free (below (n + 1)))) ≡ sum_by w (filter test (filter free (below n))) + where_true (free n) (where_true (test n) (w n))
both_more test free w n =
    let own : ℕ → ℕ = λ i. where_true (test i) (w i) in
    let all : ℕ → ℕ = λ i. where_true (free i) (own i) in
    let told : (m : ℕ) → sum_by w (filter test (filter free (below m))) ≡ sum_by all (below m) =
    λ m. sum_by-filter test w (filter free (below m)) ∙ sum_by-filter free own (below m) in
    told (n + 1) ∙ ap (λ m. sum_by all (below m)) (add-one n) ∙ ap (sum_by all) (below_push n) ∙ sum_by_push all (below n) n ∙ ap (λ s. s + all n) (sym (told n))

free_count : (free : ℕ → Bool) (n : ℕ) → length (filter free (below (n + 1))) ≡ length (filter free (below n)) + cond (free n) 1 0
free_count free n = length-filter free (below (n + 1)) ∙ count_below free n ∙ ap (λ m. m + cond (free n) 1 0) (sym (length-filter free (below n)))

nothing : (n : ℕ) → n + 0 ≡ n
nothing n = omega arith

amount_cases : (free permanent : Bool) (w : ℕ) (a : Amount)
    → record {
      faults = a.faults + cond free 1 0;
      permanent = a.permanent + where_true free (where_true (same_bit permanent true) w);
      transient = a.transient + where_true free (where_true (same_bit permanent false) w);
    } ≡ (if free then with_free permanent w a else a)
amount_cases true true w a = λ j. record { faults = a.faults + 1; permanent = a.permanent + w; transient = nothing a.transient j }
amount_cases true false w a = λ j. record { faults = a.faults + 1; permanent = nothing a.permanent j; transient = a.transient + w }
amount_cases false permanent w a = λ j. record { faults = nothing a.faults j; permanent = nothing a.permanent j; transient = nothing a.transient j }

module _ (p : Analysis) (free : ℕ → Bool) where
  pub none_counted : no_amount ≡ amount_below p free 0
  unfolding below
  none_counted = refl

  amount_more : (n : ℕ) → amount_below p free (n + 1)
      ≡ (if free n then with_free (is_permanent (fault_numbered p n)) (weight p n) (amount_below p free n) else amount_below p free n)
  amount_more n =
      (λ j. record {
        faults = free_count free n j;
        permanent = both_more (λ i. same_bit (is_permanent (fault_numbered p i)) true) free (weight p) n j;
        transient = both_more (λ i. same_bit (is_permanent (fault_numbered p i)) false) free (weight p) n j;
      })
      ∙ amount_cases (free n) (is_permanent (fault_numbered p n)) (weight p n) (amount_below p free n)

  pub one_free : (n : ℕ) → free n ≡ true → amount_below p free (n + 1) ≡ with_free (is_permanent (fault_numbered p n)) (weight p n) (amount_below p free n)
  one_free n e = amount_more n ∙ ap (λ b. if b then with_free (is_permanent (fault_numbered p n)) (weight p n) (amount_below p free n) else amount_below p free n) e

  pub none_free : (n : ℕ) → free n ≡ false → amount_below p free (n + 1) ≡ amount_below p free n
  none_free n e = amount_more n ∙ ap (λ b. if b then with_free (is_permanent (fault_numbered p n)) (weight p n) (amount_below p free n) else amount_below p free n) e

  length-below : (n : ℕ) → length (below n) ≡ n
  unfolding below
  length-below n = length-range_with_len 0 n

  pub amount_small : IsRateTable p.rates → fault_count p ≤ 2 ^ 20 → (n : ℕ) → n ≤ fault_count p → IsAmountSmall (amount_below p free n)
  amount_small table few n le =
      let all : List ℕ = filter free (below n) in
      let light : (permanent : Bool) → weight_free p free permanent n ≤ 10 ^ 18 =
      λ permanent.
      omega (
        arith,
        weight_least (λ i. same_bit (is_permanent (fault_numbered p i)) permanent) (weight p) all,
        weight_least free (weight p) (below n),
        weights_below p table n le,
      ) in
      record {
        faults = omega (arith, length-filter free (below n), count_by-le-length free (below n), length-below n, few, le);
        permanent = light true;
        transient = light false;
      }
