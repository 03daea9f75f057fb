-- The counts of the part lines add up.
use Rattle.std.proofs.Common.{◌≡◌, ℕ, ◌+◌, ◌<◌, ◌^◌, Bool, true, false, cond, List, [], ◌∷◌, length, refl, sym, ◌∙◌, arith}
use Rattle.std.specs.Prelude.{filter, find, Option, Some, None, is_none, option_map, unwrap_or, if◌then◌else◌, nat_lt, ◌==◌}
use Rattle.std.specs.Option.{option_or}
use Rattle.std.specs.List.{sum_by, count_by}
use Rattle.std.proofs.lemmas.List.Sums.{sum_by-cons}
use Rattle.circuit.specs.Names.{net_name}
use Rattle.fault_list.specs.Faults.{net_of_fault}
use Rattle.fm_base.specs.Lists.{below}
use Rattle.fm_base.proofs.SumsBelow.{sum_by-below, sum_by-filter, sum_by-ones, sum_up, sum_up-keys, sum_up-ones, where_true}
use Rattle.metric_sums.specs.declared.Class.{Class}
use Rattle.metric_sums.specs.declared.Class.TheVariants.{Safe, Detected, Residual, SinglePoint, Latent, Outside}
use Rattle.metric_sums.specs.declared.Fraction.{Fraction}
use Rattle.metric_sums.specs.Classes.{is_class}
use Rattle.metric_sums.specs.Metrics.{fraction}
use Rattle.rate_table.specs.declared.Pattern.{Pattern}
use Rattle.rate_table.specs.Table.{matches}
use Rattle.rate_table.proofs.Rows.{find_holds}
use Rattle.campaign_plan.specs.Analysis.{Analysis, fault_count, fault_numbered, part_count, part_numbered, part_of}
use Rattle.campaign_plan.specs.Batches.{class_of_fault}
use Rattle.campaign_plan.specs.Kept.{IsPlan}
use Rattle.campaign_plan.specs.PlanFaults.{idle_rate, plan_refusal}
use Rattle.campaign_plan.specs.declared.PlanRefusal.TheVariants.{MissingRate, TooManyFaults}
use Rattle.campaign_plan.specs.Steps.{part_of_net, unrated_net}
use Rattle.campaign_plan.specs.Weights.{weight}
use Rattle.campaign_plan.proofs.PartNumbers.{net_within}
use Rattle.fmeda_report.specs.Report.{part_line}
use Rattle.result_file.specs.RowPlanes.{Planes}
use Rattle.fmeda_report.specs.Steps.{faults_of_part}
use Rattle.campaign_laws.specs.Counts.{AddUp, PartCounts, CountsAddUp, line_with}
use Rattle.campaign_laws.proofs.Finding.{find_none_at}

-- ---- each part

-- the counts of some faults
abbrev counts_of : (ℕ → Class) → List ℕ → PartCounts
counts_of class faults =
    let count : Class → ℕ = λ other. count_by (λ i. is_class (class i) other) faults in
    record {
      faults = length faults;
      safe = count Safe;
      detected = count Detected;
      residual = count Residual;
      single_point = count SinglePoint;
      latent = count Latent;
      outside = count Outside;
    }

-- 1 where a class is another, and else 0
abbrev one_if : Class → Class → ℕ
one_if class other = cond (is_class class other) 1 0

one_class : (c : Class) → one_if c Safe + one_if c Detected + one_if c Residual + one_if c SinglePoint + one_if c Latent + one_if c Outside ≡ 1
one_class Safe = refl
one_class Detected = refl
one_class Residual = refl
one_class SinglePoint = refl
one_class Latent = refl
one_class Outside = refl

abbrev count_of : (ℕ → Class) → Class → List ℕ → ℕ
count_of class other xs = sum_by (λ i. one_if (class i) other) xs

six_classes : (class : ℕ → Class) (xs : List ℕ) → count_of class Safe xs + count_of class Detected xs + count_of class Residual xs + count_of class SinglePoint xs
    + count_of class Latent xs + count_of class Outside xs ≡ length xs
six_classes class [] = refl
six_classes class (x ∷ xs) =
    let step : (other : Class) → count_of class other (x ∷ xs) ≡ one_if (class x) other + count_of class other xs = λ other. sum_by-cons (λ i. one_if (class i) other) x xs in
    omega (arith, step Safe, step Detected, step Residual, step SinglePoint, step Latent, step Outside, one_class (class x), six_classes class xs)

-- the measured coverage of some faults
coverage_of : Analysis → Planes → List ℕ → Option Fraction
coverage_of p planes faults =
    let weight_of : Class → ℕ = λ class. sum_by (weight p) (filter (λ i. is_class (class_of_fault p planes i) class) faults) in
    fraction (weight_of Detected) (weight_of Detected + weight_of Residual + weight_of SinglePoint)

line_tells : (p : Analysis) (planes : Planes) (k : ℕ)
    → part_line p planes k ≡ line_with (part_numbered p k) (counts_of (class_of_fault p planes) (faults_of_part p k)) (coverage_of p planes (faults_of_part p k))
unfolding part_line coverage_of
line_tells p planes k = refl

part_adds_up : (p : Analysis) (planes : Planes) (k : ℕ) → AddUp (part_numbered p k) (part_line p planes k) (counts_of (class_of_fault p planes) (faults_of_part p k))
part_adds_up p planes k = record {
  coverage = coverage_of p planes (faults_of_part p k);
  tells = line_tells p planes k;
  add_up = six_classes (class_of_fault p planes) (faults_of_part p k);
}

-- ---- all parts

-- where nothing refuses, no net is without a rate
all_rated : (p : Analysis) → plan_refusal p ≡ None → unrated_net p ≡ None
unfolding plan_refusal
all_rated p none = by_test (nat_lt (2 ^ 20) (fault_count p)) (unrated_net p) refl none
  where
    by_test : (many : Bool) (unrated : Option ℕ) → unrated_net p ≡ unrated
        → (if many then Some TooManyFaults else option_or (option_map (λ net. MissingRate (record { 0 = net }) (net_name p.circuit net)) unrated) (idle_rate p)) ≡ None
        → unrated_net p ≡ None
    by_test true unrated is none = absurd (cc)
    by_test false None is none = is
    by_test false (Some net) is none = absurd (cc)

part_within : (p : Analysis) → IsPlan p → (i : ℕ) → i < fault_count p → part_of p (fault_numbered p i) < part_count p
part_within p plan i lt =
    let n = net_of_fault p.circuit (fault_numbered p i) in
    let here : n < length p.circuit.drivers = net_within p.circuit p.settings.flips p.settings.pulses plan.netlist i lt in
    let some : is_none (part_of_net p n) ≡ false = find_none_at (λ net. is_none (part_of_net p net)) (length p.circuit.drivers) n here (all_rated p plan.rated) in
    by_pattern n (find (λ (pattern : Pattern). matches pattern (net_name p.circuit n)) p.rates.patterns) refl some
  where
    by_pattern : (n : ℕ) (o : Option Pattern) → find (λ (pattern : Pattern). matches pattern (net_name p.circuit n)) p.rates.patterns ≡ o
        → is_none (option_map (λ (pattern : Pattern). pattern.part) o) ≡ false
        → unwrap_or (option_map (λ (pattern : Pattern). pattern.part) (find (λ (pattern : Pattern). matches pattern (net_name p.circuit n)) p.rates.patterns)) 0 < part_count p
    by_pattern n None found some = absurd (cc)
    by_pattern n (Some pattern) found some =
        let within : pattern.part < part_count p =
        find_holds (λ (it : Pattern). matches it (net_name p.circuit n)) (λ (it : Pattern). it.part < part_count p) p.rates.patterns pattern found plan.rates.numbers in
        rw found within

faults_below : (p : Analysis) (k : ℕ) → length (faults_of_part p k) ≡ sum_up (λ i. where_true (part_of p (fault_numbered p i) == k) 1) (fault_count p)
faults_below p k =
    sym (sum_by-ones (faults_of_part p k))
    ∙ sum_by-filter (λ i. part_of p (fault_numbered p i) == k) (λ _. 1) (below (fault_count p))
    ∙ sum_by-below (fault_count p) (λ i. where_true (part_of p (fault_numbered p i) == k) 1)

all_parts : (p : Analysis) → IsPlan p → sum_by (λ k. length (faults_of_part p k)) (below (part_count p)) ≡ fault_count p
all_parts p plan =
    sum_by-below (part_count p) (λ k. length (faults_of_part p k))
    ∙ (λ j. sum_up (λ k. faults_below p k j) (part_count p))
    ∙ sum_up-keys (part_count p) (fault_count p) (λ i. part_of p (fault_numbered p i)) (λ _. 1) (part_within p plan)
    ∙ sum_up-ones (fault_count p)

pub add_up : CountsAddUp
add_up p plan planes = record {
  counts = λ k. counts_of (class_of_fault p planes) (faults_of_part p k);
  each = λ k lt. part_adds_up p planes k;
  all = all_parts p plan;
}
