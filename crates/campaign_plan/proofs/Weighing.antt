-- The weights of a part's faults of one kind sum to its rate of that kind.
use Rattle.std.proofs.Common.{◌≡◌, ℕ, zero, suc, ◌+◌, ◌*◌, ◌/◌, ◌%◌, ◌<◌, ◌≤◌, Bool, true, false, List, length, take, get_or, min, refl, ap, sym, ◌∙◌, arith, add-one}
use Rattle.std.specs.Prelude.{count_by, sum_by, filter, ◌==◌, nat_lt, if◌then◌else◌}
use Rattle.std.proofs.lemmas.List.{take_all}
use Rattle.std.proofs.lemmas.List.Sums.{count_by_more_no, count_by_more_yes}
use Rattle.std.proofs.Math.Nat.{div-add-mod, mod-lt}
use Rattle.circuit.specs.declared.parts.Fault.{Fault}
use Rattle.circuit.specs.declared.parts.Fault.TheVariants.{Stuck}
use Rattle.circuit.specs.Effects.{is_permanent}
use Rattle.fault_list.specs.Faults.{net}
use Rattle.fm_base.specs.Lists.{same_bit, below}
use Rattle.fm_base.proofs.Tests.{and_both, same_bit_true}
use Rattle.campaign_plan.specs.Analysis.{Analysis, all_faults, fault_count, fault_numbered, part_numbered, part_of}
use Rattle.campaign_plan.specs.Weights.{rate_of_kind, has_part_and_kind, weight}
use Rattle.fm_base.proofs.SumsBelow.{sum_up, sum_up-zero, sum_up-push, sum_by-below, sum_by-filter, where_true}

-- the whole part for each, and one more for the first ones
shared : ℕ → ℕ → ℕ → ℕ
shared q r c = q * c + min c r

one_more : ℕ → ℕ → ℕ → ℕ
one_more q r c = q + (if nat_lt c r then 1 else 0)

shared-push : (q r c : ℕ) → shared q r (c + 1) ≡ shared q r c + one_more q r c
unfolding shared one_more
shared-push q r c = by_cases (nat_lt c r) refl
  where
    by_cases : (b : Bool) → nat_lt c r ≡ b → q * (c + 1) + min (c + 1) r ≡ q * c + min c r + (q + (if nat_lt c r then 1 else 0))
    by_cases true e = let lt : c < r = grind (arith, e) in rw e (omega (arith, lt))
    by_cases false e = let le : r ≤ c = grind (arith, e) in rw e (omega (arith, le))

shared-zero : (q r : ℕ) → shared q r 0 ≡ 0
unfolding shared
shared-zero q r = omega arith

-- with all faults of a class each unit of its rate is given
shared-all : (units n : ℕ) → 0 < n → shared (units / n) (units % n) n ≡ units
unfolding shared
shared-all units n lt =
    let rest : units % n < n = mod-lt units lt in
    omega (arith, div-add-mod units n, rest)

-- the weights of those that pass, as far as the list goes
so_far : (test : Fault → Bool) (fs : List Fault) (q r : ℕ) (w : ℕ → ℕ) (d : Fault)
    → ((i : ℕ) → i < length fs → test (get_or fs i d) ≡ true → w i ≡ one_more q r (count_by test (take i fs)))
    → (m : ℕ) → m ≤ length fs → sum_up (λ i. where_true (test (get_or fs i d)) (w i)) m ≡ shared q r (count_by test (take m fs))
so_far test fs q r w d each zero le = sum_up-zero (λ i. where_true (test (get_or fs i d)) (w i)) ∙ sym (shared-zero q r)
so_far test fs q r w d each (suc m) le = by_cases (test (get_or fs m d)) refl (so_far test fs q r w d each m (omega (arith, le)))
  where
    by_cases : (b : Bool) → test (get_or fs m d) ≡ b
        → sum_up (λ i. where_true (test (get_or fs i d)) (w i)) m ≡ shared q r (count_by test (take m fs))
        → sum_up (λ i. where_true (test (get_or fs i d)) (w i)) (suc m) ≡ shared q r (count_by test (take (suc m) fs))
    by_cases true e rest =
        let lt : m < length fs = omega (arith, le) in
        let here : where_true (test (get_or fs m d)) (w m) ≡ w m = rw e refl in
        let count : count_by test (take (suc m) fs) ≡ count_by test (take m fs) + 1 =
        ap (λ k. count_by test (take k fs)) (sym (add-one m)) ∙ count_by_more_yes test fs m d lt e in
        let more : shared q r (count_by test (take (suc m) fs)) ≡ shared q r (count_by test (take m fs) + 1) = ap (shared q r) count in
        omega (arith, sum_up-push m (λ i. where_true (test (get_or fs i d)) (w i)), rest, here, each m lt e, more, shared-push q r (count_by test (take m fs)))
    by_cases false e rest =
        let lt : m < length fs = omega (arith, le) in
        let here : where_true (test (get_or fs m d)) (w m) ≡ 0 = rw e refl in
        let count : count_by test (take (suc m) fs) ≡ count_by test (take m fs) =
        ap (λ k. count_by test (take k fs)) (sym (add-one m)) ∙ count_by_more_no test fs m d lt e in
        let more : shared q r (count_by test (take (suc m) fs)) ≡ shared q r (count_by test (take m fs)) = ap (shared q r) count in
        omega (arith, sum_up-push m (λ i. where_true (test (get_or fs i d)) (w i)), rest, here, more)

-- the weight of a fault of a part and kind
weight_of : (p : Analysis) (k : ℕ) (permanent : Bool) (i : ℕ) → has_part_and_kind p k permanent (fault_numbered p i) ≡ true
    → weight p i ≡ one_more (rate_of_kind permanent (part_numbered p k) / count_by (has_part_and_kind p k permanent) (all_faults p))
    (rate_of_kind permanent (part_numbered p k) % count_by (has_part_and_kind p k permanent) (all_faults p))
    (count_by (has_part_and_kind p k permanent) (take i (all_faults p)))
unfolding weight one_more
weight_of p k permanent i e =
    let parts = and_both (same_bit (is_permanent (fault_numbered p i)) permanent) (part_of p (fault_numbered p i) == k) e in
    let kind : is_permanent (fault_numbered p i) ≡ permanent = same_bit_true (is_permanent (fault_numbered p i)) permanent parts.0 in
    let part : part_of p (fault_numbered p i) ≡ k = grind (arith, parts.1) in
    λ j. rate_of_kind (kind j) (part_numbered p (part j)) / count_by (has_part_and_kind p (part j) (kind j)) (all_faults p)
    + (if nat_lt (count_by (has_part_and_kind p (part j) (kind j)) (take i (all_faults p)))
    (rate_of_kind (kind j) (part_numbered p (part j)) % count_by (has_part_and_kind p (part j) (kind j)) (all_faults p)) then 1 else 0)

-- the same, written out
pub weight_share : (p : Analysis) (k : ℕ) (permanent : Bool) (i : ℕ) → has_part_and_kind p k permanent (fault_numbered p i) ≡ true
    → weight p i ≡ rate_of_kind permanent (part_numbered p k) / count_by (has_part_and_kind p k permanent) (all_faults p)
    + (if nat_lt (count_by (has_part_and_kind p k permanent) (take i (all_faults p))) (rate_of_kind permanent (part_numbered p k) % count_by (has_part_and_kind p k permanent) (all_faults p)) then 1 else 0)
unfolding one_more
weight_share p k permanent i e = weight_of p k permanent i e

-- the sum of the weights of a part's faults of one kind
abbrev pub class_sum : Analysis → ℕ → Bool → ℕ
class_sum p k permanent = sum_up (λ i. where_true (has_part_and_kind p k permanent (fault_numbered p i)) (weight p i)) (fault_count p)

class_shared : (p : Analysis) (k : ℕ) (permanent : Bool) → class_sum p k permanent
    ≡ shared (rate_of_kind permanent (part_numbered p k) / count_by (has_part_and_kind p k permanent) (all_faults p))
    (rate_of_kind permanent (part_numbered p k) % count_by (has_part_and_kind p k permanent) (all_faults p))
    (count_by (has_part_and_kind p k permanent) (all_faults p))
class_shared p k permanent =
    let fs = all_faults p in
    let n = count_by (has_part_and_kind p k permanent) fs in
    let r = rate_of_kind permanent (part_numbered p k) in
    so_far (has_part_and_kind p k permanent) fs (r / n) (r % n) (weight p) (Stuck (net 0) false) (λ i lt e. weight_of p k permanent i e) (length fs) (omega arith)
    ∙ ap (λ (l : List Fault). shared (r / n) (r % n) (count_by (has_part_and_kind p k permanent) l)) (take_all (length fs) fs (omega arith))

-- it is the rate where there is such a fault
class_rate : (p : Analysis) (k : ℕ) (permanent : Bool) → 0 < count_by (has_part_and_kind p k permanent) (all_faults p)
    → class_sum p k permanent ≡ rate_of_kind permanent (part_numbered p k)
class_rate p k permanent some =
    class_shared p k permanent ∙ shared-all (rate_of_kind permanent (part_numbered p k)) (count_by (has_part_and_kind p k permanent) (all_faults p)) some

-- and never more
pub class_small : (p : Analysis) (k : ℕ) (permanent : Bool) → class_sum p k permanent ≤ rate_of_kind permanent (part_numbered p k)
class_small p k permanent = by_cases (count_by (has_part_and_kind p k permanent) (all_faults p)) refl
  where
    by_cases : (n : ℕ) → count_by (has_part_and_kind p k permanent) (all_faults p) ≡ n → class_sum p k permanent ≤ rate_of_kind permanent (part_numbered p k)
    by_cases zero e =
        let r = rate_of_kind permanent (part_numbered p k) in
        let n = count_by (has_part_and_kind p k permanent) (all_faults p) in
        let none : shared (r / n) (r % n) n ≡ shared (r / n) (r % n) 0 = ap (shared (r / n) (r % n)) e in
        omega (arith, class_shared p k permanent, none, shared-zero (r / n) (r % n))
    by_cases (suc n) e =
        let all = class_rate p k permanent (omega (arith, e)) in
        omega (arith, all)

-- the weights of a part's faults of one kind sum to its rate of that kind, where it has such a fault
pub weights_sum_to_rate : (p : Analysis) (k : ℕ) (permanent : Bool) → 0 < count_by (has_part_and_kind p k permanent) (all_faults p)
    → sum_by (weight p) (filter (λ i. has_part_and_kind p k permanent (fault_numbered p i)) (below (fault_count p))) ≡ rate_of_kind permanent (part_numbered p k)
weights_sum_to_rate p k permanent some =
    sum_by-filter (λ i. has_part_and_kind p k permanent (fault_numbered p i)) (weight p) (below (fault_count p))
    ∙ sum_by-below (fault_count p) (λ i. where_true (has_part_and_kind p k permanent (fault_numbered p i)) (weight p i)) ∙ class_rate p k permanent some
