-- How the targets stand.
use Rattle.std.proofs.Common.{◌≡◌, ◌∙◌, ap, sym, subst, refl, ℕ, ◌*◌, ◌<◌, ◌≤◌, Bool, true, false, List, arith}
use Rattle.std.specs.Prelude.{Option, Some, None, nat_lt}
use Rattle.std.proofs.lemmas.Bool.{lt-ltb, ltb-false, ltb-true}
use Rattle.std.proofs.Math.Nat.{le_of_mul-le-mul_right, mul-le-mul_left, mul-le-mul_right, mul_assoc, mul_right_comm}
use Rattle.fm_base.proofs.Tests.{clash, false_of}
use Rattle.metric_sums.specs.declared.Fraction.{Fraction}
use Rattle.metric_sums.specs.declared.Sums.{Sums}
use Rattle.metric_sums.specs.Metrics.{fraction, lfm, meets, pmhf_target, spfm_permanent, spfm_transient, term}
use Rattle.campaign_plan.specs.Analysis.{Analysis}
use Rattle.campaign_plan.specs.Batches.{Entry}
use Rattle.fmeda_report.specs.Report.{all_sums}
use Rattle.result_file.specs.RowPlanes.{Planes}
use Rattle.metric_bounds.specs.declared.Ends.{Ends}
use Rattle.metric_bounds.specs.declared.Standing.TheVariants.{Met, Missed, Open}
use Rattle.metric_bounds.specs.Missing.{AgreeWith}
use Rattle.metric_bounds.specs.Bounds.{end_sums, ratio_standing, standing}
use Rattle.metric_bounds.specs.Steps.{greatest_term, least_term}
use Rattle.metric_bounds.specs.Laws.{AreEnds, AtMost, IsBetween, LimitStands, StandsSo, TargetsStand}
use Rattle.metric_bounds.proofs.Bounding.{bounds}
use Rattle.metric_bounds.proofs.Ratios.{fraction_is}

-- ---- a percentage that a fraction meets is met by each greater one

pub met_above : (percent : ℕ) (low high : Fraction) → 0 < low.den → AtMost low high → meets percent low ≡ true → meets percent high ≡ true
met_above percent low high some at_most met =
    let a : percent * low.den ≤ 100 * low.num = grind (arith, met) in
    let b : percent * low.den * high.den ≤ 100 * low.num * high.den = mul-le-mul_right high.den a in
    let c : 100 * (low.num * high.den) ≤ 100 * (high.num * low.den) = mul-le-mul_left 100 at_most in
    let d : percent * high.den * low.den ≤ 100 * high.num * low.den =
    omega (arith, b, c, mul_right_comm percent low.den high.den, mul_assoc 100 low.num high.den, mul_assoc 100 high.num low.den) in
    let e : percent * high.den ≤ 100 * high.num = le_of_mul-le-mul_right d some in
    grind (arith, e)

pub missed_below : (percent : ℕ) (low high : Fraction) → 0 < low.den → AtMost low high → meets percent high ≡ false → meets percent low ≡ false
missed_below percent low high some at_most missed = by_test (meets percent low) refl
  where
    by_test : (b : Bool) → meets percent low ≡ b → meets percent low ≡ false
    by_test false e = e
    by_test true e = absurd (clash (meets percent high) (met_above percent low high some at_most e) missed)

-- ---- what a standing says of the worst and the best value

pub when_met : (a b : Bool) → Some (standing a b) ≡ Some Met → a ≡ true
when_met true b e = refl
when_met false true e = absurd (cc)
when_met false false e = absurd (cc)

pub when_missed : (a b : Bool) → Some (standing a b) ≡ Some Missed → b ≡ false
when_missed true b e = absurd (cc)
when_missed false true e = absurd (cc)
when_missed false false e = refl

pub when_open : (a b : Bool) → Some (standing a b) ≡ Some Open → (a ≡ false) × (b ≡ true)
when_open true b e = absurd (cc)
when_open false true e = (refl, refl)
when_open false false e = absurd (cc)

module _ (p : Analysis) (entries : List Entry) (metric : Sums → Option Fraction) (percent : ℕ) (ends : Ends) (are : AreEnds p entries metric ends)
    (dens : (s : Sums) (q : Fraction) → metric s ≡ Some q → 0 < q.den) where
  no_value : (least greatest : Option Fraction) → ends.least ≡ least → ends.greatest ≡ greatest
      → ((low high : Fraction) → least ≡ Some low → greatest ≡ Some high → ⊥) → (planes : Planes) → AgreeWith entries planes → metric (all_sums p planes) ≡ None
  no_value least greatest e f never planes agree = by_value (metric (all_sums p planes)) refl
    where
      by_value : (o : Option Fraction) → metric (all_sums p planes) ≡ o → metric (all_sums p planes) ≡ None
      by_value None is = is
      by_value (Some value) is =
          let there = are.between planes agree value is in
          absurd (never there.least there.greatest (sym e ∙ there.from) (sym f ∙ there.to))

  low_den : (low : Fraction) → ends.least ≡ Some low → 0 < low.den
  low_den low e = dens (all_sums p are.least.0) low (are.least.2 ∙ e)

  same_least : (value low : Fraction) → IsBetween ends value → ends.least ≡ Some low → AtMost low value
  same_least value low b e = (let same : b.least ≡ low = (let from = b.from in cc) in subst (λ (q : Fraction). AtMost q value) same b.above)

  same_greatest : (value high : Fraction) → IsBetween ends value → ends.greatest ≡ Some high → AtMost value high
  same_greatest value high b e = (let same : b.greatest ≡ high = (let to = b.to in cc) in subst (λ (q : Fraction). AtMost value q) same b.below)

  by_ends : (least greatest : Option Fraction) → ends.least ≡ least → ends.greatest ≡ greatest → StandsSo p entries metric percent (ratio_standing percent least greatest)
  by_ends None greatest e f = record {
    met = λ is. absurd (cc);
    missed = λ is. absurd (cc);
    left_open = λ is. absurd (cc);
    none = λ is. no_value None greatest e f (λ low high a b. absurd (cc));
  }
  by_ends (Some low) None e f = record {
    met = λ is. absurd (cc);
    missed = λ is. absurd (cc);
    left_open = λ is. absurd (cc);
    none = λ is. no_value (Some low) None e f (λ l high a b. absurd (cc));
  }
  by_ends (Some low) (Some high) e f = record {
    met = λ is planes agree value v.
        met_above percent low value (low_den low e) (same_least value low (are.between planes agree value v) e) (when_met (meets percent low) (meets percent high) is);
    missed = λ is planes agree value v.
        missed_below percent value high (dens (all_sums p planes) value v) (same_greatest value high (are.between planes agree value v) f)
        (when_missed (meets percent low) (meets percent high) is);
    left_open = λ is. (
        let answers = when_open (meets percent low) (meets percent high) is in (
          record { planes = are.greatest.0; agree = are.greatest.1; value = high; is = are.greatest.2 ∙ f; meets_it = answers.1 },
          record { planes = are.least.0; agree = are.least.1; value = low; is = are.least.2 ∙ e; meets_it = answers.0 },
        ));
    none = λ is. absurd (cc);
  }

  stands : StandsSo p entries metric percent (ratio_standing percent ends.least ends.greatest)
  stands = by_ends ends.least ends.greatest refl refl

pub some_den : (num den : ℕ) (q : Fraction) → fraction num den ≡ Some q → 0 < q.den
some_den num den q e =
    let is = fraction_is num den q e in
    subst (λ (r : Fraction). 0 < r.den) (sym is.is) is.some

pub targets : TargetsStand
targets p entries percent =
    let are = bounds p entries in
    record {
      spfm_permanent = stands p entries spfm_permanent percent _ are.spfm_permanent (λ s q e. some_den _ _ q e);
      spfm_transient = stands p entries spfm_transient percent _ are.spfm_transient (λ s q e. some_den _ _ q e);
      lfm = stands p entries lfm percent _ are.lfm (λ s q e. some_den _ _ q e);
    }

-- ---- the limit of the term

pub less_is_below : (limit low high : ℕ) → low ≤ high → nat_lt high limit ≡ true → nat_lt low limit ≡ true
less_is_below limit low high le e = (let lt = ltb-true high limit e in lt-ltb low limit (omega (arith, le, lt)))

pub more_is_above : (limit low high : ℕ) → low ≤ high → nat_lt low limit ≡ false → nat_lt high limit ≡ false
more_is_above limit low high le e =
    false_of (nat_lt high limit) (λ below. let from = ltb-false low limit e in let lt = ltb-true high limit below in absurd (omega (arith, le, from, lt)))

pub limits : LimitStands
limits p entries asil =
    let are = (bounds p entries).term in
    let limit : ℕ = pmhf_target asil in
    let low : ℕ = least_term (end_sums p entries) in
    let high : ℕ = greatest_term (end_sums p entries) in
    record {
      met = λ is planes agree.
          less_is_below limit (term (all_sums p planes)) high (are.below planes agree)
          (when_met (nat_lt high limit) (nat_lt low limit) (ap (λ s. Some s) is));
      missed = λ is planes agree.
          more_is_above limit low (term (all_sums p planes)) (are.above planes agree)
          (when_missed (nat_lt high limit) (nat_lt low limit) (ap (λ s. Some s) is));
      left_open = λ is. (
          let answers = when_open (nat_lt high limit) (nat_lt low limit) (ap (λ s. Some s) is) in (
            (are.least.0, are.least.1, ap (λ t. nat_lt t limit) are.least.2 ∙ answers.1),
            (are.greatest.0, are.greatest.1, ap (λ t. nat_lt t limit) are.greatest.2 ∙ answers.0),
          ));
    }
