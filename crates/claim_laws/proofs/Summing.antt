-- What sums and metrics are at least, where the faults that aren't proved count as dangerous.
use Rattle.std.proofs.Common.{◌≡◌, ℕ, zero, suc, ◌-◌, ◌*◌, ◌<◌, ◌≤◌, Bool, true, false, not, [], ◌∷◌, refl, ap, sym, ◌∙◌, arith, Some, None}
use Rattle.std.specs.Prelude.{◌&&◌, if◌then◌else◌}
use Rattle.std.specs.List.{sum_by}
use Rattle.std.proofs.lemmas.Bool.{le-leb, leb-true, ne_eqb}
use Rattle.fm_base.specs.Lists.{below}
use Rattle.fm_base.proofs.SumsBelow.{sum_by-below, sum_up, sum_up-push, sum_up-zero, where_true}
use Rattle.fm_base.proofs.Tests.{clash}
use Rattle.circuit.specs.Effects.{is_permanent}
use Rattle.metric_sums.specs.declared.Class.{Class}
use Rattle.metric_sums.specs.declared.Class.TheVariants.{Outside}
use Rattle.metric_sums.specs.declared.Fraction.{Fraction}
use Rattle.metric_sums.specs.declared.Role.{Role}
use Rattle.metric_sums.specs.declared.Role.TheVariants.{Mission, Mechanism, Other}
use Rattle.metric_sums.specs.declared.Sums.{Sums}
use Rattle.metric_sums.specs.Classes.{class_of, is_class, is_danger}
use Rattle.metric_sums.specs.Metrics.{fraction, meets}
use Rattle.campaign_plan.specs.Analysis.{Analysis, fault_count, fault_numbered, part_numbered, part_of}
use Rattle.campaign_plan.specs.Batches.{class_with}
use Rattle.campaign_plan.specs.Danger.{is_dangerous, is_noticed}
use Rattle.campaign_plan.specs.Laws.{TrueSumsAreOfFaultsAlone, class_alone, fault_share}
use Rattle.campaign_plan.specs.Weights.{weight}
use Rattle.claim_laws.specs.Metrics.{AreAtMost, ClaimsBoundSums, SpfmIsAtLeast, SumsAreAtMost, open_sums, true_sums}
use Rattle.claim_laws.proofs.Endangering.{not_dangerous}

-- ---- classes

abbrev is_other : Role → Bool
is_other Other = true
is_other _ = false

-- whether a fault counts doesn't depend on danger or notice
same_related : (d e n m : Bool) (role : Role) (covered permanent : Bool) → is_class (class_of d n role covered permanent) Outside ≡ is_class (class_of e m role covered permanent) Outside
same_related d e n m role covered permanent = related d n role covered permanent ∙ sym (related e m role covered permanent)
  where
    related : (d n : Bool) (role : Role) (covered permanent : Bool) → is_class (class_of d n role covered permanent) Outside ≡ is_other role
    related d n Other covered permanent = refl
    related true n Mission true permanent = refl
    related true n Mission false permanent = refl
    related true n Mechanism true permanent = refl
    related true n Mechanism false permanent = refl
    related false true Mission covered permanent = refl
    related false true Mechanism covered permanent = refl
    related false false Mission covered true = refl
    related false false Mission covered false = refl
    related false false Mechanism covered true = refl
    related false false Mechanism covered false = refl

-- a fault that isn't dangerous has no dangerous class
less_danger : (d e n : Bool) (role : Role) (covered permanent : Bool) → (d ≡ true → e ≡ true)
    → is_danger (class_of d n role covered permanent) ≡ true → is_danger (class_of e true role covered permanent) ≡ true
less_danger d e n Other covered permanent more h = h
less_danger true true n Mission true permanent more h = refl
less_danger true true n Mission false permanent more h = refl
less_danger true true n Mechanism true permanent more h = refl
less_danger true true n Mechanism false permanent more h = refl
less_danger true false n Mission covered permanent more h = (let e : false ≡ true = more refl in absurd (cc))
less_danger true false n Mechanism covered permanent more h = (let e : false ≡ true = more refl in absurd (cc))
less_danger false e true Mission covered permanent more h = absurd (cc)
less_danger false e true Mechanism covered permanent more h = absurd (cc)
less_danger false e false Mission covered true more h = absurd (cc)
less_danger false e false Mission covered false more h = absurd (cc)
less_danger false e false Mechanism covered true more h = absurd (cc)
less_danger false e false Mechanism covered false more h = absurd (cc)

-- ---- sums

counted_less : (kind a b : Bool) (w : ℕ) → (a ≡ true → b ≡ true) → where_true (kind && a) w ≤ where_true (kind && b) w
counted_less true true true w more = omega arith
counted_less true true false w more = (let e : false ≡ true = more refl in absurd (cc))
counted_less true false b w more = none_less b w
  where
    none_less : (b : Bool) (w : ℕ) → where_true false w ≤ where_true b w
    none_less true w = omega arith
    none_less false w = omega arith
counted_less false a b w more = omega arith

up_less : (n : ℕ) (f g : ℕ → ℕ) → ((k : ℕ) → k < n → f k ≤ g k) → sum_up f n ≤ sum_up g n
up_less zero f g le = omega (arith, sum_up-zero f)
up_less (suc n) f g le = omega (arith, sum_up-push n f, sum_up-push n g, le n (omega arith), up_less n f g (λ k lt. le k (omega (arith, lt))))

sums_less : (n : ℕ) (f g : ℕ → ℕ) → ((k : ℕ) → k < n → f k ≤ g k) → sum_by f (below n) ≤ sum_by g (below n)
sums_less n f g le = omega (arith, sum_by-below n f, sum_by-below n g, up_less n f g le)

sums_same : (n : ℕ) (f g : ℕ → ℕ) → ((k : ℕ) → k < n → f k ≡ g k) → sum_by f (below n) ≡ sum_by g (below n)
sums_same n f g same =
    let less : sum_by f (below n) ≤ sum_by g (below n) = sums_less n f g (λ k lt. omega (arith, same k lt)) in
    let more : sum_by g (below n) ≤ sum_by f (below n) = sums_less n g f (λ k lt. omega (arith, same k lt)) in
    omega (arith, less, more)

module _ (p : Analysis) (proved : ℕ → Bool)
    (safe : (i : ℕ) → i < fault_count p → proved i ≡ true → is_dangerous p.circuit p.points p.settings.ftti p.runs (fault_numbered p i ∷ []) ≡ false) where
  abbrev open_class : ℕ → Class
  open_class i = class_with p i (not (proved i)) true

  dangers : (i : ℕ) → i < fault_count p → is_danger (class_alone p i) ≡ true → is_danger (open_class i) ≡ true
  dangers i lt =
      let fault = fault_numbered p i in
      let own = part_numbered p (part_of p fault) in
      less_danger (is_dangerous p.circuit p.points p.settings.ftti p.runs (fault ∷ [])) (not (proved i)) (is_noticed p.circuit p.points p.runs (fault ∷ []))
      own.role own.covered (is_permanent fault) (λ e. open_of (proved i) (λ known. clash _ e (safe i lt known)))
    where
      open_of : (b : Bool) → (b ≡ true → ⊥) → not b ≡ true
      open_of true h = absurd (h refl)
      open_of false h = refl

  related : (i : ℕ) → is_class (class_alone p i) Outside ≡ is_class (open_class i) Outside
  related i =
      let fault = fault_numbered p i in
      let own = part_numbered p (part_of p fault) in
      same_related (is_dangerous p.circuit p.points p.settings.ftti p.runs (fault ∷ [])) (not (proved i)) (is_noticed p.circuit p.points p.runs (fault ∷ [])) true
      own.role own.covered (is_permanent fault)

  pub at_most : TrueSumsAreOfFaultsAlone → AreAtMost (true_sums p) (open_sums p proved)
  at_most law = record {
    permanent_all =
        ap (λ (s : Sums). s.permanent_all) (law p)
        ∙ sums_same (fault_count p) (λ i. (fault_share p (class_alone p) i).permanent_all) (λ i. (fault_share p open_class i).permanent_all)
        (λ i lt. ap (λ b. where_true (is_permanent (fault_numbered p i) && not b) (weight p i)) (related i));
    permanent_danger =
        let first : (true_sums p).permanent_danger ≡ sum_by (λ i. (fault_share p (class_alone p) i).permanent_danger) (below (fault_count p)) = ap (λ (s : Sums). s.permanent_danger) (law p) in
        let less = sums_less (fault_count p) (λ i. (fault_share p (class_alone p) i).permanent_danger) (λ i. (fault_share p open_class i).permanent_danger)
        (λ i lt. counted_less (is_permanent (fault_numbered p i)) (is_danger (class_alone p i)) (is_danger (open_class i)) (weight p i) (dangers i lt)) in
        omega (arith, first, less);
    transient_all =
        ap (λ (s : Sums). s.transient_all) (law p)
        ∙ sums_same (fault_count p) (λ i. (fault_share p (class_alone p) i).transient_all) (λ i. (fault_share p open_class i).transient_all)
        (λ i lt. ap (λ b. where_true (not (is_permanent (fault_numbered p i)) && not b) (weight p i)) (related i));
    transient_danger =
        let first : (true_sums p).transient_danger ≡ sum_by (λ i. (fault_share p (class_alone p) i).transient_danger) (below (fault_count p)) = ap (λ (s : Sums). s.transient_danger) (law p) in
        let less = sums_less (fault_count p) (λ i. (fault_share p (class_alone p) i).transient_danger) (λ i. (fault_share p open_class i).transient_danger)
        (λ i lt. counted_less (not (is_permanent (fault_numbered p i))) (is_danger (class_alone p i)) (is_danger (open_class i)) (weight p i) (dangers i lt)) in
        omega (arith, first, less);
  }

pub sums : TrueSumsAreOfFaultsAlone → SumsAreAtMost
sums law p proved safe = at_most p proved safe law

pub claims : TrueSumsAreOfFaultsAlone → ClaimsBoundSums
claims law p sound nets proved each = at_most p proved (λ i lt e. not_dangerous p sound nets (fault_numbered p i) (each i lt e)) law

-- ---- the metric

some_of : (num n : ℕ) → fraction num (suc n) ≡ Some (record { num = num; den = suc n })
some_of num n = ap (λ b. if b then None else Some (record { num = num; den = suc n })) (ne_eqb (suc n) 0 (omega arith))

inside : (q least : Fraction) → Some q ≡ Some least → q ≡ least
inside q least e = cc

-- a lesser part of all leaves no less
fraction_least : (mine all danger most : ℕ) (least : Fraction) → mine ≡ all → danger ≤ most → fraction (all - most) all ≡ Some least
    → (q : Fraction) × (fraction (mine - danger) mine ≡ Some q) × (q.den ≡ least.den) × (least.num ≤ q.num)
fraction_least mine zero danger most least same le e = absurd (cc)
fraction_least mine (suc n) danger most least same le e =
    let is : record { num = suc n - most; den = suc n } ≡ least = inside (record { num = suc n - most; den = suc n }) least (sym (some_of (suc n - most) n) ∙ e) in
    let num : suc n - most ≡ least.num = ap (λ (q : Fraction). q.num) is in (
      record { num = suc n - danger; den = suc n },
      ap (λ a. fraction (a - danger) a) same ∙ some_of (suc n - danger) n,
      ap (λ (q : Fraction). q.den) is,
      omega (arith, num, le),
    )

targets_kept : (percent : ℕ) (least q : Fraction) → q.den ≡ least.den → least.num ≤ q.num → meets percent least ≡ true → meets percent q ≡ true
targets_kept percent least q den num e =
    let met : percent * least.den ≤ 100 * least.num = leb-true (percent * least.den) (100 * least.num) e in
    let same : percent * q.den ≡ percent * least.den = ap (λ d. percent * d) den in
    le-leb (percent * q.den) (100 * q.num) (omega (arith, met, same, num))

pub spfm : SpfmIsAtLeast
spfm own most are least = (
  λ e.
      let found = fraction_least own.permanent_all most.permanent_all own.permanent_danger most.permanent_danger least are.permanent_all are.permanent_danger e in
      record {
        fraction = found.0;
        value = found.1;
        den = found.2;
        num = found.3;
        target = λ percent met. targets_kept percent least found.0 found.2 found.3 met;
      },
  λ e.
      let found = fraction_least own.transient_all most.transient_all own.transient_danger most.transient_danger least are.transient_all are.transient_danger e in
      record {
        fraction = found.0;
        value = found.1;
        den = found.2;
        num = found.3;
        target = λ percent met. targets_kept percent least found.0 found.2 found.3 met;
      },
)
