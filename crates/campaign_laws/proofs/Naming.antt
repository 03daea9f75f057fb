-- The weights of the named faults add up.
use Rattle.std.proofs.Common.{◌≡◌, ℕ, ◌/◌, ◌%◌, Bool, true, false, cond, not, List, [], ◌∷◌, ◌++◌, refl, ap, sym, ◌∙◌}
use Rattle.std.specs.Prelude.{◌&&◌, ◌||◌, filter, flat_map, if◌then◌else◌}
use Rattle.std.specs.List.{sum_by}
use Rattle.circuit.specs.Effects.{is_permanent}
use Rattle.fault_list.proofs.Numbers.{lane_back}
use Rattle.fm_base.specs.Lists.{below}
use Rattle.fm_base.specs.Names.{Bytes}
use Rattle.fm_base.specs.Planes.{bit, lanes}
use Rattle.fm_base.proofs.SumsBelow.{sum_by-filter, where_true}
use Rattle.metric_sums.specs.declared.Class.{Class}
use Rattle.metric_sums.specs.declared.Class.TheVariants.{Safe, Detected, Residual, SinglePoint, Latent, Outside}
use Rattle.metric_sums.specs.declared.Role.{Role}
use Rattle.metric_sums.specs.declared.Role.TheVariants.{Mission, Mechanism, Other}
use Rattle.metric_sums.specs.declared.Sums.{Sums}
use Rattle.metric_sums.specs.Classes.{class_of, is_class, is_danger}
use Rattle.campaign_plan.specs.Analysis.{Analysis, fault_count, fault_numbered, part_numbered, part_of}
use Rattle.campaign_plan.specs.Batches.{class_of_fault, class_with}
use Rattle.campaign_plan.specs.Laws.{SumsAreOfFaults}
use Rattle.campaign_plan.specs.Weights.{weight}
use Rattle.fmeda_report.specs.Report.{all_sums, fault_line}
use Rattle.result_file.specs.RowPlanes.{Planes}
use Rattle.campaign_laws.specs.Named.{NamedWeightsAddUp, named_faults, named_line, named_weight}

-- lines of those that pass, and nothing of the others
lines_of : (test : ℕ → Bool) (text : ℕ → Bytes) (xs : List ℕ) → flat_map (λ i. if test i then text i else []) xs ≡ flat_map text (filter test xs)
lines_of test text [] = refl
lines_of test text (x ∷ xs) = by_test (test x) (lines_of test text xs)
  where
    by_test : (b : Bool) → flat_map (λ i. if test i then text i else []) xs ≡ flat_map text (filter test xs)
        → (if b then text x else []) ++ flat_map (λ i. if test i then text i else []) xs ≡ flat_map text (cond b (x ∷ filter test xs) (filter test xs))
    by_test true rest = ap (λ more. text x ++ more) rest
    by_test false rest = rest

-- a class that is named
abbrev is_named : Class → Bool
is_named class = is_danger class || is_class class Latent

-- what is summed of a named class, is summed of it whether it is named or not
inner : (c n : Bool) (w : ℕ) → (c ≡ true → n ≡ true) → where_true n (where_true c w) ≡ where_true c w
inner true true w h = refl
inner true false w h = (let no : false ≡ true = h refl in absurd (cc))
inner false true w h = refl
inner false false w h = refl

danger_named : (class : Class) (b : Bool) → (is_danger class && b) ≡ true → is_named class ≡ true
danger_named Safe b e = absurd (cc)
danger_named Detected b e = absurd (cc)
danger_named Residual b e = refl
danger_named SinglePoint b e = refl
danger_named Latent b e = refl
danger_named Outside b e = absurd (cc)

latent_named : (class : Class) → is_class class Latent ≡ true → is_named class ≡ true
latent_named Safe e = absurd (cc)
latent_named Detected e = absurd (cc)
latent_named Residual e = refl
latent_named SinglePoint e = refl
latent_named Latent e = refl
latent_named Outside e = absurd (cc)

module _ (p : Analysis) (planes : Planes) where
  abbrev class : ℕ → Class
  class i = class_of_fault p planes i

  weight_by : (test : ℕ → Bool) → ((i : ℕ) → test i ≡ true → is_named (class i) ≡ true)
      → named_weight p planes test ≡ sum_by (λ i. where_true (test i) (weight p i)) (below (fault_count p))
  weight_by test names =
      sum_by-filter test (weight p) (named_faults p planes)
      ∙ sum_by-filter (λ i. is_named (class i)) (λ i. where_true (test i) (weight p i)) (below (fault_count p))
      ∙ (λ j. sum_by (λ i. inner (test i) (is_named (class i)) (weight p i) (names i) j) (below (fault_count p)))

  swap : (a b : Bool) (w : ℕ) → where_true (a && b) w ≡ where_true (b && a) w
  swap true true w = refl
  swap true false w = refl
  swap false true w = refl
  swap false false w = refl

  -- a latent fault is permanent
  latent_by : (d n : Bool) (role : Role) (covered permanent : Bool) (w : ℕ)
      → where_true (is_class (class_of d n role covered permanent) Latent) w ≡ where_true (permanent && is_class (class_of d n role covered permanent) Latent) w
  latent_by d n role covered true w = refl
  latent_by d n Other covered false w = refl
  latent_by true n Mission true false w = refl
  latent_by true n Mission false false w = refl
  latent_by true n Mechanism true false w = refl
  latent_by true n Mechanism false false w = refl
  latent_by false true Mission covered false w = refl
  latent_by false true Mechanism covered false w = refl
  latent_by false false Mission covered false w = refl
  latent_by false false Mechanism covered false w = refl

  latent_at : (i : ℕ) → where_true (is_class (class i) Latent) (weight p i) ≡ where_true (is_permanent (fault_numbered p i) && is_class (class i) Latent) (weight p i)
  latent_at i =
      let danger = bit (planes (i / lanes)).danger (i % lanes) in
      let notice = bit (planes (i / lanes)).noticed (i % lanes) in
      let own = part_numbered p (part_of p (fault_numbered p i)) in
      let same : class i ≡ class_with p i danger notice = ap (λ n. class_with p n danger notice) (lane_back i) in
      ap (λ c. where_true (is_class c Latent) (weight p i)) same
      ∙ latent_by danger notice own.role own.covered (is_permanent (fault_numbered p i)) (weight p i)
      ∙ sym (ap (λ c. where_true (is_permanent (fault_numbered p i) && is_class c Latent) (weight p i)) same)

  permanent_is : SumsAreOfFaults → named_weight p planes (λ i. is_danger (class i) && is_permanent (fault_numbered p i)) ≡ (all_sums p planes).permanent_danger
  permanent_is law =
      weight_by (λ i. is_danger (class i) && is_permanent (fault_numbered p i)) (λ i. danger_named (class i) (is_permanent (fault_numbered p i)))
      ∙ (λ j. sum_by (λ i. swap (is_danger (class i)) (is_permanent (fault_numbered p i)) (weight p i) j) (below (fault_count p)))
      ∙ sym (ap (λ (s : Sums). s.permanent_danger) (law p planes))

  transient_is : SumsAreOfFaults → named_weight p planes (λ i. is_danger (class i) && not (is_permanent (fault_numbered p i))) ≡ (all_sums p planes).transient_danger
  transient_is law =
      weight_by (λ i. is_danger (class i) && not (is_permanent (fault_numbered p i))) (λ i. danger_named (class i) (not (is_permanent (fault_numbered p i))))
      ∙ (λ j. sum_by (λ i. swap (is_danger (class i)) (not (is_permanent (fault_numbered p i))) (weight p i) j) (below (fault_count p)))
      ∙ sym (ap (λ (s : Sums). s.transient_danger) (law p planes))

  latent_is : SumsAreOfFaults → named_weight p planes (λ i. is_class (class i) Latent) ≡ (all_sums p planes).latent
  latent_is law =
      weight_by (λ i. is_class (class i) Latent) (λ i. latent_named (class i))
      ∙ (λ j. sum_by (λ i. latent_at i j) (below (fault_count p)))
      ∙ sym (ap (λ (s : Sums). s.latent) (law p planes))

pub add_up : SumsAreOfFaults → NamedWeightsAddUp
unfolding fault_line
add_up law p planes = record {
  lines = lines_of (λ i. is_named (class_of_fault p planes i)) (named_line p planes) (below (fault_count p));
  permanent = permanent_is p planes law;
  transient = transient_is p planes law;
  latent = latent_is p planes law;
}
