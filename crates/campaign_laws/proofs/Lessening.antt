-- What becomes of the classes of faults, and of the sums, with a longer interval and with more alarm points.
use Rattle.std.proofs.Common.{◌≡◌, ℕ, zero, suc, ◌<◌, ◌≤◌, Bool, true, false, not, ◌⊎◌, inl, inr, [], ◌∷◌, refl, ap, arith}
use Rattle.std.specs.Prelude.{◌&&◌}
use Rattle.std.specs.List.{sum_by}
use Rattle.circuit.specs.Effects.{is_permanent}
use Rattle.fm_base.specs.Lists.{below}
use Rattle.fm_base.proofs.SumsBelow.{sum_by-below, sum_up, sum_up-push, sum_up-zero, where_true}
use Rattle.metric_sums.specs.declared.Class.{Class}
use Rattle.metric_sums.specs.declared.Class.TheVariants.{Detected}
use Rattle.metric_sums.specs.declared.Role.{Role}
use Rattle.metric_sums.specs.declared.Role.TheVariants.{Mission, Mechanism, Other}
use Rattle.metric_sums.specs.declared.Sums.{Sums}
use Rattle.metric_sums.specs.Classes.{class_of, is_danger}
use Rattle.campaign_plan.specs.Analysis.{Analysis, fault_count, fault_numbered, part_numbered, part_of, with_interval}
use Rattle.campaign_plan.specs.Batches.{true_planes}
use Rattle.campaign_plan.specs.Danger.{is_dangerous, is_noticed}
use Rattle.campaign_plan.specs.Laws.{TrueSumsAreOfFaultsAlone, class_alone, fault_share}
use Rattle.campaign_plan.specs.Weights.{weight}
use Rattle.fmeda_report.specs.Report.{all_sums}
use Rattle.campaign_laws.specs.Danger.{KeepsOrLeavesDanger, LongerIntervalIsLessDangerous, MoreAlarmsDetect, with_alarms}
use Rattle.campaign_laws.proofs.Alarming.{longer, more_alarms}

-- ---- a class, by danger and notice before and after

-- less danger, and the same notice
turned : (d e n : Bool) (role : Role) (covered permanent : Bool) → (e ≡ true → d ≡ true)
    → KeepsOrLeavesDanger (class_of d n role covered permanent) (class_of e n role covered permanent)
turned d e n Other covered permanent h = inl refl
turned true true n Mission covered permanent h = inl refl
turned true true n Mechanism covered permanent h = inl refl
turned false false n Mission covered permanent h = inl refl
turned false false n Mechanism covered permanent h = inl refl
turned false true n Mission covered permanent h = (let no : false ≡ true = h refl in absurd (cc))
turned false true n Mechanism covered permanent h = (let no : false ≡ true = h refl in absurd (cc))
turned true false true Mission true permanent h = inr (refl, refl)
turned true false true Mission false permanent h = inr (refl, refl)
turned true false true Mechanism true permanent h = inr (refl, refl)
turned true false true Mechanism false permanent h = inr (refl, refl)
turned true false false Mission true true h = inr (refl, refl)
turned true false false Mission true false h = inr (refl, refl)
turned true false false Mission false true h = inr (refl, refl)
turned true false false Mission false false h = inr (refl, refl)
turned true false false Mechanism true true h = inr (refl, refl)
turned true false false Mechanism true false h = inr (refl, refl)
turned true false false Mechanism false true h = inr (refl, refl)
turned true false false Mechanism false false h = inr (refl, refl)

-- less danger, more notice, and notice in place of danger
detected : (d e n m : Bool) (role : Role) (covered permanent : Bool) → (e ≡ true → d ≡ true) → (n ≡ true → m ≡ true) → (d ≡ true → e ≡ false → m ≡ true)
    → (class_of e m role covered permanent ≡ class_of d n role covered permanent) ⊎ (class_of e m role covered permanent ≡ Detected)
detected d e n m Other covered permanent h k l = inl refl
detected true true n m Mission true permanent h k l = inl refl
detected true true n m Mission false permanent h k l = inl refl
detected true true n m Mechanism true permanent h k l = inl refl
detected true true n m Mechanism false permanent h k l = inl refl
detected false true n m Mission covered permanent h k l = (let no : false ≡ true = h refl in absurd (cc))
detected false true n m Mechanism covered permanent h k l = (let no : false ≡ true = h refl in absurd (cc))
detected d false n true Mission covered permanent h k l = inr refl
detected d false n true Mechanism covered permanent h k l = inr refl
detected true false n false Mission covered permanent h k l = (let no : false ≡ true = l refl refl in absurd (cc))
detected true false n false Mechanism covered permanent h k l = (let no : false ≡ true = l refl refl in absurd (cc))
detected false false true false Mission covered permanent h k l = (let no : false ≡ true = k refl in absurd (cc))
detected false false true false Mechanism covered permanent h k l = (let no : false ≡ true = k refl in absurd (cc))
detected false false false false Mission covered permanent h k l = inl refl
detected false false false false Mechanism covered permanent h k l = inl refl

-- ---- the sums of danger

danger_less : (before after : Class) (w : ℕ) → KeepsOrLeavesDanger before after → where_true (is_danger after) w ≤ where_true (is_danger before) w
danger_less before after w (inl same) = let e : where_true (is_danger after) w ≡ where_true (is_danger before) w = ap (λ c. where_true (is_danger c) w) same in omega (arith, e)
danger_less before after w (inr gone) = let none : where_true (is_danger after) w ≡ 0 = ap (λ b. where_true b w) gone.1 in omega (arith, none)

both_less : (kind a b : Bool) (w : ℕ) → where_true a w ≤ where_true b w → where_true (kind && a) w ≤ where_true (kind && b) w
both_less true a b w le = le
both_less false a b w le = omega arith

less_below : (n : ℕ) (f g : ℕ → ℕ) → ((k : ℕ) → k < n → f k ≤ g k) → sum_up f n ≤ sum_up g n
less_below zero f g le = omega (arith, sum_up-zero f)
less_below (suc n) f g le =
    omega (arith, sum_up-push n f, sum_up-push n g, le n (omega arith), less_below n f g (λ k lt. le k (omega (arith, lt))))

sums_less : (n : ℕ) (f g : ℕ → ℕ) → ((k : ℕ) → k < n → f k ≤ g k) → sum_by f (below n) ≤ sum_by g (below n)
sums_less n f g le = omega (arith, sum_by-below n f, sum_by-below n g, less_below n f g le)

-- ---- a longer interval

module _ (p : Analysis) (long : ℕ) (le : p.settings.ftti ≤ long) where
  abbrev after : Analysis
  after = with_interval p long

  turns : (i : ℕ) → KeepsOrLeavesDanger (class_alone p i) (class_alone after i)
  turns i =
      let fault = fault_numbered p i in
      let own = part_numbered p (part_of p fault) in
      turned (is_dangerous p.circuit p.points p.settings.ftti p.runs (fault ∷ [])) (is_dangerous p.circuit p.points long p.runs (fault ∷ []))
      (is_noticed p.circuit p.points p.runs (fault ∷ [])) own.role own.covered (is_permanent fault)
      (longer p.circuit p.points p.runs (fault ∷ []) p.settings.ftti long le)

  permanent_less : TrueSumsAreOfFaultsAlone → (all_sums after (true_planes after)).permanent_danger ≤ (all_sums p (true_planes p)).permanent_danger
  unfolding weight
  permanent_less law =
      let f : ℕ → ℕ = λ i. (fault_share after (class_alone after) i).permanent_danger in
      let g : ℕ → ℕ = λ i. (fault_share p (class_alone p) i).permanent_danger in
      let less : sum_by f (below (fault_count p)) ≤ sum_by g (below (fault_count p)) =
      sums_less (fault_count p) f g (λ i lt. both_less (is_permanent (fault_numbered p i)) (is_danger (class_alone after i)) (is_danger (class_alone p i)) (weight p i)
      (danger_less (class_alone p i) (class_alone after i) (weight p i) (turns i))) in
      let first : (all_sums after (true_planes after)).permanent_danger ≡ sum_by f (below (fault_count p)) = ap (λ (s : Sums). s.permanent_danger) (law after) in
      let second : (all_sums p (true_planes p)).permanent_danger ≡ sum_by g (below (fault_count p)) = ap (λ (s : Sums). s.permanent_danger) (law p) in
      omega (arith, less, first, second)

  transient_less : TrueSumsAreOfFaultsAlone → (all_sums after (true_planes after)).transient_danger ≤ (all_sums p (true_planes p)).transient_danger
  unfolding weight
  transient_less law =
      let f : ℕ → ℕ = λ i. (fault_share after (class_alone after) i).transient_danger in
      let g : ℕ → ℕ = λ i. (fault_share p (class_alone p) i).transient_danger in
      let less : sum_by f (below (fault_count p)) ≤ sum_by g (below (fault_count p)) =
      sums_less (fault_count p) f g (λ i lt. both_less (not (is_permanent (fault_numbered p i))) (is_danger (class_alone after i)) (is_danger (class_alone p i)) (weight p i)
      (danger_less (class_alone p i) (class_alone after i) (weight p i) (turns i))) in
      let first : (all_sums after (true_planes after)).transient_danger ≡ sum_by f (below (fault_count p)) = ap (λ (s : Sums). s.transient_danger) (law after) in
      let second : (all_sums p (true_planes p)).transient_danger ≡ sum_by g (below (fault_count p)) = ap (λ (s : Sums). s.transient_danger) (law p) in
      omega (arith, less, first, second)

pub less_dangerous : TrueSumsAreOfFaultsAlone → LongerIntervalIsLessDangerous
less_dangerous law p long le = record {
  classes = λ i lt. turns p long le i;
  permanent = permanent_less p long le law;
  transient = transient_less p long le law;
}

-- ---- more alarm points

pub alarms_detect : MoreAlarmsDetect
alarms_detect p alarms more i lt =
    let fault = fault_numbered p i in
    let own = part_numbered p (part_of p fault) in
    let are = more_alarms p.circuit p.points alarms more p.settings.ftti p.runs (fault ∷ []) in
    detected (is_dangerous p.circuit p.points p.settings.ftti p.runs (fault ∷ [])) (is_dangerous p.circuit (with_alarms p.points alarms) p.settings.ftti p.runs (fault ∷ []))
    (is_noticed p.circuit p.points p.runs (fault ∷ [])) (is_noticed p.circuit (with_alarms p.points alarms) p.runs (fault ∷ []))
    own.role own.covered (is_permanent fault) are.danger are.notice are.instead
