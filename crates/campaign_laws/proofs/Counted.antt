-- The weights of all faults that count are the same whatever the planes, so a single-point fault metric has a value for all planes or for none.
use Rattle.std.proofs.Common.{◌≡◌, ℕ, zero, suc, ◌-◌, ◌/◌, ◌%◌, Bool, true, false, not, refl, ap, sym, ◌∙◌, arith}
use Rattle.std.specs.Prelude.{◌&&◌, Some, None, ◌==◌}
use Rattle.std.specs.List.{sum_by}
use Rattle.circuit.specs.Effects.{is_permanent}
use Rattle.fault_list.proofs.Numbers.{lane_back}
use Rattle.fm_base.specs.Lists.{below}
use Rattle.fm_base.specs.Planes.{bit, lanes}
use Rattle.fm_base.proofs.SumsBelow.{where_true}
use Rattle.metric_sums.specs.declared.Class.TheVariants.{Outside}
use Rattle.metric_sums.specs.declared.Fraction.{Fraction}
use Rattle.metric_sums.specs.declared.Role.{Role}
use Rattle.metric_sums.specs.declared.Role.TheVariants.{Mission, Mechanism, Other}
use Rattle.metric_sums.specs.declared.Sums.{Sums}
use Rattle.metric_sums.specs.Classes.{class_of, is_class}
use Rattle.metric_sums.specs.Metrics.{fraction, spfm_permanent, spfm_transient}
use Rattle.campaign_plan.specs.Analysis.{Analysis, fault_count, fault_numbered, part_numbered, part_of}
use Rattle.campaign_plan.specs.Batches.{class_of_fault, class_with}
use Rattle.campaign_plan.specs.Laws.{SumsAreOfFaults}
use Rattle.campaign_plan.specs.Weights.{weight}
use Rattle.fmeda_report.specs.Report.{all_sums}
use Rattle.result_file.specs.RowPlanes.{Planes}

-- a class is outside by the part's role alone
outside_by : (d n : Bool) (role : Role) (covered permanent e m : Bool)
    → is_class (class_of d n role covered permanent) Outside ≡ is_class (class_of e m role covered permanent) Outside
outside_by d n role covered permanent e m = to_false d n role covered permanent ∙ sym (to_false e m role covered permanent)
  where
    to_false : (d n : Bool) (role : Role) (covered permanent : Bool) → is_class (class_of d n role covered permanent) Outside ≡ is_class (class_of false true role covered permanent) Outside
    to_false d n Other covered permanent = refl
    to_false true n Mission true permanent = refl
    to_false true n Mission false permanent = refl
    to_false true n Mechanism true permanent = refl
    to_false true n Mechanism false permanent = refl
    to_false false true Mission covered permanent = refl
    to_false false true Mechanism covered permanent = refl
    to_false false false Mission covered true = refl
    to_false false false Mission covered false = refl
    to_false false false Mechanism covered true = refl
    to_false false false Mechanism covered false = refl

some_or_none : {X : Type 0} (x : X) → Some x ≡ None → ⊥
some_or_none x e = absurd (cc)

fraction_same : (num den other whole : ℕ) (q : Fraction) → den ≡ whole → fraction num den ≡ Some q → fraction other whole ≡ None → ⊥
fraction_same num zero other whole q same some none = absurd (cc)
fraction_same num (suc den) other zero q same some none = (let no : suc den ≡ zero = same in absurd (cc))
fraction_same num (suc den) other (suc whole) q same some none =
    let apart : (suc whole == 0) ≡ false = grind arith in
    let there : Fraction = record { num = other; den = suc whole } in
    some_or_none there (rw apart at none)

module _ (sums : SumsAreOfFaults) (p : Analysis) where
  outside_same : (one other : Planes) (i : ℕ) → is_class (class_of_fault p one i) Outside ≡ is_class (class_of_fault p other i) Outside
  outside_same one other i =
      let own = part_numbered p (part_of p (fault_numbered p i)) in
      ap (λ n. is_class (class_with p n (bit (one (i / lanes)).danger (i % lanes)) (bit (one (i / lanes)).noticed (i % lanes))) Outside) (lane_back i)
      ∙ outside_by (bit (one (i / lanes)).danger (i % lanes)) (bit (one (i / lanes)).noticed (i % lanes)) own.role own.covered (is_permanent (fault_numbered p i))
      (bit (other (i / lanes)).danger (i % lanes)) (bit (other (i / lanes)).noticed (i % lanes))
      ∙ sym (ap (λ n. is_class (class_with p n (bit (other (i / lanes)).danger (i % lanes)) (bit (other (i / lanes)).noticed (i % lanes))) Outside) (lane_back i))

  permanent_same : (one other : Planes) → (all_sums p one).permanent_all ≡ (all_sums p other).permanent_all
  permanent_same one other =
      ap (λ (s : Sums). s.permanent_all) (sums p one)
      ∙ (λ j. sum_by (λ i. where_true (is_permanent (fault_numbered p i) && not (outside_same one other i j)) (weight p i)) (below (fault_count p)))
      ∙ sym (ap (λ (s : Sums). s.permanent_all) (sums p other))

  transient_same : (one other : Planes) → (all_sums p one).transient_all ≡ (all_sums p other).transient_all
  transient_same one other =
      ap (λ (s : Sums). s.transient_all) (sums p one)
      ∙ (λ j. sum_by (λ i. where_true (not (is_permanent (fault_numbered p i)) && not (outside_same one other i j)) (weight p i)) (below (fault_count p)))
      ∙ sym (ap (λ (s : Sums). s.transient_all) (sums p other))

  pub permanent_value : (one other : Planes) (q : Fraction) → spfm_permanent (all_sums p one) ≡ Some q → spfm_permanent (all_sums p other) ≡ None → ⊥
  permanent_value one other q some none =
      let s = all_sums p one in
      let t = all_sums p other in
      fraction_same (s.permanent_all - s.permanent_danger) s.permanent_all (t.permanent_all - t.permanent_danger) t.permanent_all q (permanent_same one other) some none

  pub transient_value : (one other : Planes) (q : Fraction) → spfm_transient (all_sums p one) ≡ Some q → spfm_transient (all_sums p other) ≡ None → ⊥
  transient_value one other q some none =
      let s = all_sums p one in
      let t = all_sums p other in
      fraction_same (s.transient_all - s.transient_danger) s.transient_all (t.transient_all - t.transient_danger) t.transient_all q (transient_same one other) some none
