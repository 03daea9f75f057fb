-- The flips of each cycle make the metric of transient faults, where there are no pulses.
use Rattle.std.proofs.Common.{◌≡◌, ◌∙◌, sym, ap, ap₂, refl, ℕ, ◌<◌, ◌/◌, ◌%◌, Bool, true, false, []}
use Rattle.std.specs.Prelude.{not, ◌&&◌, sum_by}
use Rattle.circuit.specs.Effects.{is_permanent}
use Rattle.fm_base.specs.Lists.{below}
use Rattle.fm_base.specs.Planes.{bit}
use Rattle.fault_list.proofs.Numbers.{lane_back}
use Rattle.fm_base.proofs.SumsBelow.{sum_by-filter, where_true}
use Rattle.metric_sums.specs.declared.Class.{Class}
use Rattle.metric_sums.specs.declared.Class.TheVariants.{Outside}
use Rattle.metric_sums.specs.declared.Role.{Role}
use Rattle.metric_sums.specs.declared.Role.TheVariants.{Mission, Mechanism, Other}
use Rattle.metric_sums.specs.declared.Sums.{Sums}
use Rattle.metric_sums.specs.Classes.{class_of, is_class, is_danger}
use Rattle.campaign_plan.specs.Analysis.{Analysis, fault_count, fault_numbered, part_numbered, part_of}
use Rattle.campaign_plan.specs.Batches.{class_with, true_planes}
use Rattle.campaign_plan.specs.Laws.{fault_share}
use Rattle.campaign_plan.specs.Weights.{weight}
use Rattle.campaign_plan.proofs.Alone.{sums_of_faults}
use Rattle.coverage.specs.declared.Evidence.TheVariants.{Harm}
use Rattle.coverage.specs.Evidence.{is_kind}
use Rattle.coverage.specs.Laws.{CyclesAreTransient, HarmIsDanger, is_flip, reported, spoken, weight_of_flips}
use Rattle.coverage.specs.Upsets.{counts}
use Rattle.coverage.proofs.Sums.{sum_same}
use Rattle.coverage.proofs.Cycles.{all_flips, cycles_add_up}

-- a fault isn't outside where its part counts
role_counts : Role → Bool
role_counts = elim [ Other ↦ false | _ ↦ true ]

counted_class : (d n : Bool) (role : Role) (covered permanent : Bool) → role_counts role ≡ not (is_class (class_of d n role covered permanent) Outside)
unfolding role_counts
counted_class d n Other covered permanent = refl
counted_class true n Mission true permanent = refl
counted_class true n Mission false permanent = refl
counted_class true n Mechanism true permanent = refl
counted_class true n Mechanism false permanent = refl
counted_class false true Mission covered permanent = refl
counted_class false true Mechanism covered permanent = refl
counted_class false false Mission covered true = refl
counted_class false false Mission covered false = refl
counted_class false false Mechanism covered true = refl
counted_class false false Mechanism covered false = refl

counts_inside : (p : Analysis) (i : ℕ) → counts p (fault_numbered p i) ≡ not (is_class (reported p i) Outside)
unfolding role_counts
counts_inside p i =
    let d : Bool = bit (true_planes p (i / 64)).danger (i % 64) in
    let n : Bool = bit (true_planes p (i / 64)).noticed (i % 64) in
    let own = part_numbered p (part_of p (fault_numbered p i)) in
    counted_class d n own.role own.covered (is_permanent (fault_numbered p i))
    ∙ ap (λ (class : Class). not (is_class class Outside)) (sym (ap (λ k. class_with p k d n) (lane_back i)))

module _ (p : Analysis) (none : p.settings.pulses ≡ []) where
  -- the weight of all flips that pass a test is a sum over all faults
  all_of : (test counted : ℕ → Bool) (share : Sums → ℕ)
      → ((i : ℕ) → i < fault_count p → (counts p (fault_numbered p i) && test i) ≡ counted i)
      → ((i : ℕ) → where_true (not (is_permanent (fault_numbered p i)) && counted i) (weight p i) ≡ share (fault_share p (reported p) i))
      → weight_of_flips p test ≡ sum_by (λ i. share (fault_share p (reported p) i)) (below (fault_count p))
  all_of test counted share same is =
      sum_by-filter (λ i. is_flip (fault_numbered p i) && (counts p (fault_numbered p i) && test i)) (weight p) (below (fault_count p))
      ∙ sum_same (λ i. where_true (is_flip (fault_numbered p i) && (counts p (fault_numbered p i) && test i)) (weight p i))
      (λ i. share (fault_share p (reported p) i)) (fault_count p)
      (λ i lt. ap₂ (λ flip own. where_true (flip && own) (weight p i)) (all_flips p none i lt) (same i lt) ∙ is i)

and_true : (b : Bool) → (b && true) ≡ b
and_true true = refl
and_true false = refl

-- THE CYCLES ARE THE TRANSIENT METRIC
pub cycles_are_transient : HarmIsDanger → CyclesAreTransient
cycles_are_transient harm_is_danger p sound settings none = (
  cycles_add_up p (λ i. is_kind (spoken p i) Harm) settings
      ∙ all_of p none (λ i. is_kind (spoken p i) Harm) (λ i. is_danger (reported p i)) (λ s. s.transient_danger)
      (λ i lt. ap (λ b. b && is_kind (spoken p i) Harm) (counts_inside p i) ∙ sym (harm_is_danger p i sound lt)) (λ i. refl)
      ∙ sym (ap (λ (s : Sums). s.transient_danger) (sums_of_faults p (true_planes p))),
  cycles_add_up p (λ i. true) settings
      ∙ all_of p none (λ i. true) (λ i. not (is_class (reported p i) Outside)) (λ s. s.transient_all)
      (λ i lt. and_true (counts p (fault_numbered p i)) ∙ counts_inside p i) (λ i. refl)
      ∙ sym (ap (λ (s : Sums). s.transient_all) (sums_of_faults p (true_planes p))),
)
