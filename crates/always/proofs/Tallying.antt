-- How many faults of a part stand in each way, fault by fault.
use Rattle.std.proofs.Common.{◌≡◌, ℕ, ◌+◌, ◌≤◌, ◌^◌, Bool, true, false, cond, List, length, refl, ap, sym, ◌∙◌, add-one, arith}
use Rattle.std.specs.Prelude.{count_by, filter, if◌then◌else◌}
use Rattle.std.proofs.lemmas.List.FromFn.{length-range_with_len}
use Rattle.std.specs.List.{sum_by}
use Rattle.std.proofs.lemmas.List.Sums.{count_by-le-length, length-filter, sum_by_push}
use Rattle.fm_base.specs.Lists.{below}
use Rattle.fm_base.proofs.Below.{below_push, count_below}
use Rattle.fm_base.proofs.SumsBelow.{sum_by-filter, where_true}
use Rattle.campaign_plan.specs.Analysis.{Analysis}
use Rattle.always.specs.Tally.{IsTallySmall, is_of, no_tally, tally_below, with_verdict}
use Rattle.always.specs.Verdict.{is_verdict}
use Rattle.always.specs.declared.tally.Tally.{Tally}
use Rattle.always.specs.declared.verdict.Verdict.{Verdict}
use Rattle.always.specs.declared.verdict.Verdict.TheVariants.{NoPath, Alarmed, Early, Open}

module _ (own : ℕ → Bool) where
  length_more : (n : ℕ) → length (filter own (below (n + 1))) ≡ length (filter own (below n)) + cond (own n) 1 0
  length_more n = length-filter own (below (n + 1)) ∙ count_below own n ∙ ap (λ m. m + cond (own n) 1 0) (sym (length-filter own (below n)))

  -- how many pass two tests, with one number more
  count_more : (test : ℕ → Bool) (n : ℕ) → count_by test (filter own (below (n + 1))) ≡ count_by test (filter own (below n)) + where_true (own n) (cond (test n) 1 0)
  count_more test n =
      let one : ℕ → ℕ = λ i. cond (test i) 1 0 in
      let all : ℕ → ℕ = λ i. where_true (own i) (one i) in
      let told : (m : ℕ) → count_by test (filter own (below m)) ≡ sum_by all (below m) = λ m. sum_by-filter own one (below m) in
      told (n + 1) ∙ ap (λ m. sum_by all (below m)) (add-one n) ∙ ap (sum_by all) (below_push n) ∙ sum_by_push all (below n) n ∙ ap (λ s. s + all n) (sym (told n))

nothing : (n : ℕ) → n + 0 ≡ n
nothing n = omega arith

abbrev with_one : Bool → Verdict → Tally → Tally
with_one own v t = record {
  faults = t.faults + cond own 1 0;
  no_path = t.no_path + where_true own (cond (is_verdict v NoPath) 1 0);
  alarmed = t.alarmed + where_true own (cond (is_verdict v Alarmed) 1 0);
  early = t.early + where_true own (cond (is_verdict v Early) 1 0);
  left_open = t.left_open + where_true own (cond (is_verdict v Open) 1 0);
}

cases : (own : Bool) (v : Verdict) (t : Tally) → with_one own v t ≡ (if own then with_verdict v t else t)
cases true NoPath t = λ j. record { faults = t.faults + 1; no_path = t.no_path + 1; alarmed = nothing t.alarmed j; early = nothing t.early j; left_open = nothing t.left_open j }
cases true Alarmed t = λ j. record { faults = t.faults + 1; no_path = nothing t.no_path j; alarmed = t.alarmed + 1; early = nothing t.early j; left_open = nothing t.left_open j }
cases true Early t = λ j. record { faults = t.faults + 1; no_path = nothing t.no_path j; alarmed = nothing t.alarmed j; early = t.early + 1; left_open = nothing t.left_open j }
cases true Open t = λ j. record { faults = t.faults + 1; no_path = nothing t.no_path j; alarmed = nothing t.alarmed j; early = nothing t.early j; left_open = t.left_open + 1 }
cases false v t =
    λ j. record { faults = nothing t.faults j; no_path = nothing t.no_path j; alarmed = nothing t.alarmed j; early = nothing t.early j; left_open = nothing t.left_open j }

module _ (p : Analysis) (verdict : ℕ → Verdict) (k : ℕ) where
  pub none_told : no_tally ≡ tally_below p verdict k 0
  unfolding below
  none_told = refl

  more_told : (n : ℕ) → tally_below p verdict k (n + 1) ≡ (if is_of p k n then with_verdict (verdict n) (tally_below p verdict k n) else tally_below p verdict k n)
  more_told n =
      (λ j. record {
        faults = length_more (is_of p k) n j;
        no_path = count_more (is_of p k) (λ i. is_verdict (verdict i) NoPath) n j;
        alarmed = count_more (is_of p k) (λ i. is_verdict (verdict i) Alarmed) n j;
        early = count_more (is_of p k) (λ i. is_verdict (verdict i) Early) n j;
        left_open = count_more (is_of p k) (λ i. is_verdict (verdict i) Open) n j;
      })
      ∙ cases (is_of p k n) (verdict n) (tally_below p verdict k n)

  pub one_told : (n : ℕ) → is_of p k n ≡ true → tally_below p verdict k (n + 1) ≡ with_verdict (verdict n) (tally_below p verdict k n)
  one_told n e = more_told n ∙ ap (λ b. if b then with_verdict (verdict n) (tally_below p verdict k n) else tally_below p verdict k n) e

  pub other_told : (n : ℕ) → is_of p k n ≡ false → tally_below p verdict k (n + 1) ≡ tally_below p verdict k n
  other_told n e = more_told n ∙ ap (λ b. if b then with_verdict (verdict n) (tally_below p verdict k n) else tally_below p verdict k n) e

  length-below : (n : ℕ) → length (below n) ≡ n
  unfolding below
  length-below n = length-range_with_len 0 n

  pub few_told : (n : ℕ) → n ≤ 2 ^ 20 → IsTallySmall (tally_below p verdict k n)
  few_told n le =
      let all : List ℕ = filter (is_of p k) (below n) in
      let few : length all ≤ 2 ^ 20 = omega (arith, length-filter (is_of p k) (below n), count_by-le-length (is_of p k) (below n), length-below n, le) in
      let less : (kind : Verdict) → count_by (λ i. is_verdict (verdict i) kind) all ≤ 2 ^ 20 = λ kind. omega (arith, count_by-le-length (λ i. is_verdict (verdict i) kind) all, few) in
      record { faults = few; no_path = less NoPath; alarmed = less Alarmed; early = less Early; left_open = less Open }
