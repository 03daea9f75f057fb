-- The five sums over distinct batches are small and consistent, whatever the planes.
use Rattle.std.proofs.Common.{◌≡◌, ℕ, zero, suc, ◌+◌, ◌*◌, ◌<◌, ◌≤◌, ◌^◌, Bool, true, false, List, [], ◌∷◌, length, get_or, min, refl, ap, sym, subst, ◌∙◌, arith}
use Rattle.std.specs.Prelude.{Option, Some, None, option_map, unwrap_or, find, sum_by, All, ◌==◌, ◌&&◌, nat_lt}
use Rattle.circuit.specs.Names.{net_name}
use Rattle.circuit.specs.Effects.{is_permanent}
use Rattle.fault_list.specs.Faults.{fault_number, is_used, used_lanes, net_of_fault}
use Rattle.fm_base.specs.Lists.{same_bit, below}
use Rattle.fm_base.specs.Once.{IsOnce}
use Rattle.metric_sums.specs.Totals.{AreSmall, AreConsistent}
use Rattle.metric_sums.proofs.Shares.{AreWithin, share_within, sums_within, consistent_within}
use Rattle.rate_table.specs.declared.Part.{Part}
use Rattle.rate_table.specs.declared.Pattern.{Pattern}
use Rattle.rate_table.specs.Table.{IsRateTable, all_rates, matches}
use Rattle.rate_table.proofs.Rows.{find_holds}
use Rattle.campaign_plan.specs.declared.Outcome.{Outcome}
use Rattle.campaign_plan.specs.Analysis.{Analysis, fault_count, fault_numbered, part_numbered, part_count, part_of, batch_count}
use Rattle.campaign_plan.specs.Weights.{rate_of_kind, has_part_and_kind, weight}
use Rattle.campaign_plan.specs.Batches.{Entry, total, batches, own_sums, lane_sums, class_in_lane, AreDistinct}
use Rattle.campaign_plan.specs.Kept.{IsPlan}
use Rattle.fm_base.proofs.SumsBelow.{sum_up, sum_up-zero, sum_up-push, sum_up-split, sum_up-mono, sum_up-plus, sum_up-less, sum_up-keys, sum_up-list, sum_by-below, sum_by-filter, where_true, once_le, sum_by-map}
use Rattle.campaign_plan.proofs.Weighing.{class_small}

-- ---- the weights of all faults are within the rates of all parts

abbrev matches_fault : Analysis → ℕ → Pattern → Bool
matches_fault p i pattern = matches pattern (net_name p.circuit (net_of_fault p.circuit (fault_numbered p i)))

-- the number of a fault's part is that of a part, or 0
part_below : (p : Analysis) → IsRateTable p.rates → (i : ℕ) → part_of p (fault_numbered p i) < part_count p + 1
part_below p table i = by_cases (find (matches_fault p i) p.rates.patterns) refl
  where
    by_cases : (o : Option Pattern) → find (matches_fault p i) p.rates.patterns ≡ o
        → unwrap_or (option_map (λ (pattern : Pattern). pattern.part) (find (matches_fault p i) p.rates.patterns)) 0 < part_count p + 1
    by_cases None e = rw e (omega arith)
    by_cases (Some pattern) e =
        let below = find_holds (matches_fault p i) (λ (pattern : Pattern). pattern.part < length p.rates.parts) p.rates.patterns pattern e table.numbers in
        rw e (omega (arith, below))

-- each fault of a part is of one kind
kinds_apart : (a b : Bool) (n : ℕ) → where_true b n ≡ where_true (same_bit a true && b) n + where_true (same_bit a false && b) n
kinds_apart true true n = omega arith
kinds_apart true false n = refl
kinds_apart false true n = omega arith
kinds_apart false false n = refl

abbrev part_rates : Analysis → ℕ → ℕ
part_rates p k = rate_of_kind true (part_numbered p k) + rate_of_kind false (part_numbered p k)

part_small : (p : Analysis) (k : ℕ) → sum_up (λ i. where_true (part_of p (fault_numbered p i) == k) (weight p i)) (fault_count p) ≤ part_rates p k
part_small p k =
    let split : sum_up (λ i. where_true (part_of p (fault_numbered p i) == k) (weight p i)) (fault_count p)
    ≡ sum_up (λ i. where_true (has_part_and_kind p k true (fault_numbered p i)) (weight p i) + where_true (has_part_and_kind p k false (fault_numbered p i)) (weight p i)) (fault_count p) =
    λ j. sum_up (λ i. kinds_apart (is_permanent (fault_numbered p i)) (part_of p (fault_numbered p i) == k) (weight p i) j) (fault_count p) in
    omega (
      arith,
      split,
      sum_up-plus (fault_count p) (λ i. where_true (has_part_and_kind p k true (fault_numbered p i)) (weight p i)) (λ i. where_true (has_part_and_kind p k false (fault_numbered p i)) (weight p i)),
      class_small p k true,
      class_small p k false,
    )

no_part_there : (parts : List Part) (d : Part) → get_or parts (length parts) d ≡ d
no_part_there [] d = refl
no_part_there (part ∷ parts) d = no_part_there parts d

pub weights_small : (p : Analysis) → IsRateTable p.rates → sum_up (weight p) (fault_count p) ≤ 10 ^ 18
weights_small p table =
    let keys = sum_up-keys (part_count p + 1) (fault_count p) (λ i. part_of p (fault_numbered p i)) (weight p) (λ i _. part_below p table i) in
    let less = sum_up-less (part_count p + 1) (λ k. sum_up (λ i. where_true (part_of p (fault_numbered p i) == k) (weight p i)) (fault_count p)) (part_rates p) (part_small p) in
    let last : sum_up (part_rates p) (part_count p + 1) ≡ sum_up (part_rates p) (part_count p) + part_rates p (part_count p) =
    (let same : part_count p + 1 ≡ suc (part_count p) = omega arith in ap (sum_up (part_rates p)) same ∙ sum_up-push (part_count p) (part_rates p)) in
    let none : part_rates p (part_count p) ≡ 0 = ap (λ (part : Part). part.permanent + part.transient) (no_part_there p.rates.parts _) in
    let all : sum_up (part_rates p) (part_count p) ≡ all_rates p.rates.parts = sum_up-list (λ (part : Part). part.permanent + part.transient) _ p.rates.parts in
    omega (arith, keys, less, last, none, all, table.rates)

-- ---- the lanes of all batches are the faults

abbrev batch_weight : Analysis → ℕ → ℕ
batch_weight p batch = sum_by (λ lane. weight p (fault_number batch lane)) (used_lanes (fault_count p) batch)

-- values below a bound, and 0 from there on
abbrev pub cut : (ℕ → ℕ) → ℕ → ℕ → ℕ
cut f n i = where_true (nat_lt i n) (f i)

pub blocks : (f : ℕ → ℕ) (m : ℕ) → sum_up (λ b. sum_up (λ k. f (64 * b + k)) 64) m ≡ sum_up f (64 * m)
blocks f zero = sum_up-zero (λ b. sum_up (λ k. f (64 * b + k)) 64) ∙ sym (sum_up-zero f)
blocks f (suc m) =
    let same : 64 * suc m ≡ 64 * m + 64 = omega arith in
    let here : sum_up f (64 * suc m) ≡ sum_up f (64 * m + 64) = ap (sum_up f) same in
    omega (arith, sum_up-push m (λ b. sum_up (λ k. f (64 * b + k)) 64), blocks f m, here, sum_up-split (64 * m) 64 f)

pub cut_is : (f : ℕ → ℕ) (n m : ℕ) → sum_up (cut f n) m ≡ sum_up f (min m n)
cut_is f n zero = sum_up-zero (cut f n) ∙ (let none : min 0 n ≡ 0 = omega arith in sym (ap (sum_up f) none ∙ sum_up-zero f))
cut_is f n (suc m) = by_cases (nat_lt m n) refl (cut_is f n m)
  where
    by_cases : (b : Bool) → nat_lt m n ≡ b → sum_up (cut f n) m ≡ sum_up f (min m n) → sum_up (cut f n) (suc m) ≡ sum_up f (min (suc m) n)
    by_cases true e rest =
        let lt : m < n = grind (arith, e) in
        let here : cut f n m ≡ f m = rw e refl in
        let old : sum_up f (min m n) ≡ sum_up f m = (let same : min m n ≡ m = omega (arith, lt) in ap (sum_up f) same) in
        let new : sum_up f (min (suc m) n) ≡ sum_up f (suc m) = (let same : min (suc m) n ≡ suc m = omega (arith, lt) in ap (sum_up f) same) in
        omega (arith, sum_up-push m (cut f n), rest, here, old, new, sum_up-push m f)
    by_cases false e rest =
        let le : n ≤ m = grind (arith, e) in
        let here : cut f n m ≡ 0 = rw e refl in
        let same : min (suc m) n ≡ min m n = omega (arith, le) in
        omega (arith, sum_up-push m (cut f n), rest, here, ap (sum_up f) same)

batch_sum : (p : Analysis) (batch : ℕ) → batch_weight p batch ≡ sum_up (λ k. cut (weight p) (fault_count p) (64 * batch + k)) 64
batch_sum p batch =
    sum_by-filter (is_used (fault_count p) batch) (λ lane. weight p (fault_number batch lane)) (below 64)
    ∙ sum_by-below 64 (λ lane. where_true (is_used (fault_count p) batch lane) (weight p (fault_number batch lane)))

batches_small : (p : Analysis) → IsRateTable p.rates → (m : ℕ) → sum_up (batch_weight p) m ≤ 10 ^ 18
batches_small p table m =
    let n = fault_count p in
    let sums : sum_up (batch_weight p) m ≡ sum_up (λ b. sum_up (λ k. cut (weight p) n (64 * b + k)) 64) m = λ j. sum_up (λ b. batch_sum p b j) m in
    let within : min (64 * m) n ≤ n = omega arith in
    omega (arith, sums, blocks (cut (weight p) n) m, cut_is (weight p) n (64 * m), sum_up-mono (min (64 * m) n) n (weight p) within, weights_small p table)

-- ---- the sums over batches

own_within : (p : Analysis) (batch : ℕ) (planes : Outcome) → AreWithin (batch_weight p batch) (own_sums p batch planes)
unfolding own_sums
own_within p batch planes =
    sums_within (lane_sums p batch planes) (λ lane. weight p (fault_number batch lane)) (used_lanes (fault_count p) batch)
    (λ lane. share_within (class_in_lane p batch planes lane) (is_permanent (fault_numbered p (fault_number batch lane))) (weight p (fault_number batch lane)))

total_within : (p : Analysis) (entries : List Entry) → AreWithin (sum_by (batch_weight p) (batches entries)) (total p entries)
total_within p entries =
    subst (λ n. AreWithin n (total p entries)) (sym (sum_by-map (batch_weight p) (λ (e : Entry). e.0) entries))
    (sums_within (λ (e : Entry). own_sums p e.0 e.1) (λ (e : Entry). batch_weight p e.0) entries (λ e. own_within p e.0 e.1))

-- batches that stand once each have small sums
pub consistent_once : (p : Analysis) → IsRateTable p.rates → (entries : List Entry)
    → All (λ batch. batch < batch_count p) (batches entries) → IsOnce (batches entries) → AreConsistent (total p entries)
consistent_once p table entries within once =
    let le = once_le (batches entries) (batch_count p) (batch_weight p) within once in
    consistent_within (sum_by (batch_weight p) (batches entries)) (total p entries) (total_within p entries)
    (omega (arith, le, batches_small p table (batch_count p)))

-- the law: whatever the planes, the five sums over distinct batches of a plan are each at most 10^18
pub consistent_sums : (p : Analysis) → IsPlan p → (entries : List Entry) → AreDistinct p entries → AreConsistent (total p entries)
consistent_sums p plan entries distinct = consistent_once p plan.rates entries distinct.within distinct.once

pub small_sums : (p : Analysis) → IsPlan p → (entries : List Entry) → AreDistinct p entries → AreSmall (total p entries)
small_sums p plan entries distinct = (consistent_sums p plan entries distinct).small
