-- Counts of faults and shares of rates, one fault after the other.
use Rattle.std.proofs.Common.{◌≡◌, ◌≢◌, ℕ, zero, suc, ◌+◌, ◌-◌, ◌/◌, ◌%◌, ◌<◌, ◌≤◌, ◌^◌, ◌⊎◌, inl, inr, Bool, true, false, List, [], ◌∷◌, ◌++◌, length, map, take, set, get_or, refl, ap, ap₂, sym, subst, ◌∙◌, arith, add-one, get_or-set_same, get_or-set_other, length-set}
use Rattle.std.proofs.Math.Bool.{beq, and-false}
use Rattle.std.specs.Prelude.{count_by, filter_map, slice_get, Option, Some, None, option_map, if◌then◌else◌, nat_lt, ◌==◌, ◌&&◌}
use Rattle.std.proofs.lemmas.List.Sums.{count_by_more_no, count_by_more_yes, count_by-le-length, sum_by-take-le, get_or-le-sum_by}
use Rattle.std.proofs.lemmas.List.{get_or-map, get_or_default, length-take, get_or_append_left, get_or-append_right}
use Rattle.std.proofs.Math.Nat.{div-le_self}
use Rattle.circuit.specs.declared.parts.Fault.{Fault}
use Rattle.circuit.specs.declared.parts.Fault.TheVariants.{Stuck}
use Rattle.circuit.specs.Effects.{is_permanent}
use Rattle.fault_list.specs.Faults.{net}
use Rattle.fm_base.specs.Lists.{same_bit, below}
use Rattle.fm_base.proofs.Below.{below_push, map-below}
use Rattle.metric_sums.specs.declared.Role.TheVariants.{Other}
use Rattle.rate_table.specs.declared.Part.{Part}
use Rattle.rate_table.specs.Table.{IsRateTable}
use Rattle.campaign_plan.proofs.Weighing.{weight_share}
use Rattle.std.proofs.lemmas.List.Elements.{filter_map-append}
use Rattle.campaign_plan.specs.declared.PlanRefusal.TheVariants.{IdleRate}
use Rattle.campaign_plan.specs.Steps.{idle_rate_of, is_idle}
use Rattle.campaign_plan.specs.declared.shares.Share.{Share}
use Rattle.campaign_plan.specs.Analysis.{Analysis, all_faults, fault_numbered, part_count, part_numbered, part_of}
use Rattle.campaign_plan.specs.Shares.{ArePartCounts, AreShares, share_at, less, next_weight, full_share, share_of_rate, idle_of}
use Rattle.campaign_plan.specs.Weights.{has_part_and_kind, rate_of_kind, weight}

same_kind : (a b : Bool) → a ≡ b → same_bit a b ≡ true
same_kind true b e = sym e
same_kind false true e = absurd (cc)
same_kind false false e = refl

other_kind : (a b : Bool) → a ≢ b → same_bit a b ≡ false
other_kind true true e = absurd (e refl)
other_kind true false e = refl
other_kind false true e = refl
other_kind false false e = absurd (e refl)

-- whether a fault is of a part and kind
is_mine : (p : Analysis) (k : ℕ) (permanent : Bool) (f : Fault) → is_permanent f ≡ permanent → part_of p f ≡ k → has_part_and_kind p k permanent f ≡ true
is_mine p k permanent f kind part =
    let here : (part_of p f == k) ≡ true = grind (arith, part) in
    ap₂ (λ a b. a && b) (same_kind (is_permanent f) permanent kind) here

not_part : (p : Analysis) (k : ℕ) (permanent : Bool) (f : Fault) → k ≢ part_of p f → has_part_and_kind p k permanent f ≡ false
not_part p k permanent f ne =
    let here : (part_of p f == k) ≡ false = grind (arith, ne) in
    ap (λ b. same_bit (is_permanent f) permanent && b) here ∙ and-false (same_bit (is_permanent f) permanent)

not_kind : (p : Analysis) (k : ℕ) (permanent : Bool) (f : Fault) → is_permanent f ≢ permanent → has_part_and_kind p k permanent f ≡ false
not_kind p k permanent f ne = ap (λ b. b && (part_of p f == k)) (other_kind (is_permanent f) permanent ne)

abbrev so_far : Analysis → ℕ → Bool → ℕ → ℕ
so_far p k permanent i = count_by (has_part_and_kind p k permanent) (take i (all_faults p))

-- ---- counts

pub no_counts : (p : Analysis) (permanent : Bool) (counts : List ℕ) → length counts ≡ part_count p
    → ((k : ℕ) → k < part_count p → get_or counts k 0 ≡ 0) → ArePartCounts p permanent (take 0 (all_faults p)) counts
no_counts p permanent counts size none = record { size = size; each = none }

pub one_counted : (p : Analysis) (permanent : Bool) (i : ℕ) (counts : List ℕ) (part : ℕ) → ArePartCounts p permanent (take i (all_faults p)) counts
    → i < length (all_faults p) → is_permanent (fault_numbered p i) ≡ permanent → part_of p (fault_numbered p i) ≡ part → part < part_count p
    → ArePartCounts p permanent (take (i + 1) (all_faults p)) (set counts part (get_or counts part 0 + 1))
one_counted p permanent i counts part are lt kind own within = record {
  size = length-set counts part (get_or counts part 0 + 1) ∙ are.size;
  each = λ k less. (let split : (k ≡ part) ⊎ (k ≢ part) = grind arith in
      elim split as (λ _. get_or (set counts part (get_or counts part 0 + 1)) k 0 ≡ so_far p k permanent (i + 1)) [
        | inl e ↦ subst (λ j. get_or (set counts part (get_or counts part 0 + 1)) j 0 ≡ so_far p j permanent (i + 1)) (sym e)
            (get_or-set_same counts part (get_or counts part 0 + 1) 0 (omega (arith, are.size, within))
            ∙ ap (λ n. n + 1) (are.each part within)
            ∙ sym (count_by_more_yes (has_part_and_kind p part permanent) (all_faults p) i (Stuck (net 0) false) lt (is_mine p part permanent (fault_numbered p i) kind own)))
        | inr ne ↦ get_or-set_other counts part k (get_or counts part 0 + 1) 0 ne ∙ are.each k less
            ∙ sym (count_by_more_no (has_part_and_kind p k permanent) (all_faults p) i (Stuck (net 0) false) lt
            (not_part p k permanent (fault_numbered p i) (λ e. ne (e ∙ own))))
      ]);
}

pub none_counted : (p : Analysis) (permanent : Bool) (i : ℕ) (counts : List ℕ) → ArePartCounts p permanent (take i (all_faults p)) counts
    → i < length (all_faults p) → is_permanent (fault_numbered p i) ≢ permanent → ArePartCounts p permanent (take (i + 1) (all_faults p)) counts
none_counted p permanent i counts are lt kind = record {
  size = are.size;
  each = λ k less. are.each k less ∙ sym (count_by_more_no (has_part_and_kind p k permanent) (all_faults p) i (Stuck (net 0) false) lt (not_kind p k permanent (fault_numbered p i) kind));
}

-- ---- shares

pub share_taken : (p : Analysis) (permanent : Bool) (i : ℕ) (shares : List Share) (part : ℕ) → AreShares p permanent i shares
    → i < length (all_faults p) → is_permanent (fault_numbered p i) ≡ permanent → part_of p (fault_numbered p i) ≡ part → part < part_count p
    → AreShares p permanent (i + 1) (set shares part (less 1 (share_at shares part)))
share_taken p permanent i shares part are lt kind own within = record {
  size = length-set shares part (less 1 (share_at shares part)) ∙ are.size;
  each = λ k below. (let split : (k ≡ part) ⊎ (k ≢ part) = grind arith in
      elim split as (λ _. share_at (set shares part (less 1 (share_at shares part))) k ≡ less (so_far p k permanent (i + 1)) (full_share p permanent k)) [
        | inl e ↦ subst (λ j. share_at (set shares part (less 1 (share_at shares part))) j ≡ less (so_far p j permanent (i + 1)) (full_share p permanent j)) (sym e)
            (get_or-set_same shares part (less 1 (share_at shares part)) _ (omega (arith, are.size, within))
            ∙ ap (less 1) (are.each part within)
            ∙ (let one : (full_share p permanent part).left - so_far p part permanent i - 1 ≡ (full_share p permanent part).left - (so_far p part permanent i + 1) = omega arith in
            ap (λ n. record { whole = (full_share p permanent part).whole; left = n }) one)
            ∙ sym (ap (λ n. less n (full_share p permanent part)) (count_by_more_yes (has_part_and_kind p part permanent) (all_faults p) i (Stuck (net 0) false) lt (is_mine p part permanent (fault_numbered p i) kind own))))
        | inr ne ↦ get_or-set_other shares part k (less 1 (share_at shares part)) _ ne ∙ are.each k below
            ∙ sym (ap (λ n. less n (full_share p permanent k)) (count_by_more_no (has_part_and_kind p k permanent) (all_faults p) i (Stuck (net 0) false) lt
            (not_part p k permanent (fault_numbered p i) (λ e. ne (e ∙ own)))))
      ]);
}

pub share_kept : (p : Analysis) (permanent : Bool) (i : ℕ) (shares : List Share) → AreShares p permanent i shares
    → i < length (all_faults p) → is_permanent (fault_numbered p i) ≢ permanent → AreShares p permanent (i + 1) shares
share_kept p permanent i shares are lt kind = record {
  size = are.size;
  each = λ k below. are.each k below
      ∙ sym (ap (λ n. less n (full_share p permanent k)) (count_by_more_no (has_part_and_kind p k permanent) (all_faults p) i (Stuck (net 0) false) lt (not_kind p k permanent (fault_numbered p i) kind)));
}

-- what a part's number in the table says
pub number_at : (p : Analysis) (numbers : List ℕ) (i d : ℕ) → numbers ≡ map (part_of p) (all_faults p) → i < length (all_faults p)
    → get_or numbers i d ≡ part_of p (fault_numbered p i)
number_at p numbers i d e lt = ap (λ (ns : List ℕ). get_or ns i d) e ∙ get_or-map (part_of p) (all_faults p) i (Stuck (net 0) false) d lt

pub counted_few : (p : Analysis) (permanent : Bool) (i k : ℕ) (counts : List ℕ) → ArePartCounts p permanent (take i (all_faults p)) counts
    → k < part_count p → get_or counts k 0 ≤ i
counted_few p permanent i k counts are lt =
    omega (arith, are.each k lt, count_by-le-length (has_part_and_kind p k permanent) (take i (all_faults p)), length-take i (all_faults p))

-- ---- the share of a fault is its weight

abbrev one_if : Bool → ℕ
one_if b = if b then 1 else 0

left_or_none : (before left : ℕ) → one_if (nat_lt 0 (left - before)) ≡ one_if (nat_lt before left)
left_or_none before left = by_cases (nat_lt before left) refl
  where
    by_cases : (b : Bool) → nat_lt before left ≡ b → one_if (nat_lt 0 (left - before)) ≡ one_if (nat_lt before left)
    by_cases true e =
        let lt : before < left = grind (arith, e) in
        let some : 0 < left - before = omega (arith, lt) in
        let here : nat_lt 0 (left - before) ≡ true = grind (arith, some) in
        ap one_if (here ∙ sym e)
    by_cases false e =
        let le : left ≤ before = grind (arith, e) in
        let none : left - before ≤ 0 = omega (arith, le) in
        let here : nat_lt 0 (left - before) ≡ false = grind (arith, none) in
        ap one_if (here ∙ sym e)

count_take : (test : Fault → Bool) (fs : List Fault) (i : ℕ) → count_by test (take i fs) ≤ count_by test fs
count_take test fs i = sum_by-take-le (λ f. if test f then 1 else 0) fs i

shared_among : (rate n : ℕ) → 0 < n → share_of_rate rate n ≡ record { whole = rate / n; left = rate % n }
shared_among rate n some =
    let here : (n == 0) ≡ false = grind (arith, some) in
    rw here refl

pub share_weight : (p : Analysis) (permanent : Bool) (i : ℕ) (shares : List Share) (part : ℕ) → AreShares p permanent i shares
    → i < length (all_faults p) → is_permanent (fault_numbered p i) ≡ permanent → part_of p (fault_numbered p i) ≡ part → part < part_count p
    → next_weight (share_at shares part) ≡ weight p i
share_weight p permanent i shares part are lt kind own within =
    let mine = is_mine p part permanent (fault_numbered p i) kind own in
    let more : count_by (has_part_and_kind p part permanent) (take (i + 1) (all_faults p)) ≡ so_far p part permanent i + 1 =
    count_by_more_yes (has_part_and_kind p part permanent) (all_faults p) i (Stuck (net 0) false) lt mine in
    let rate = rate_of_kind permanent (part_numbered p part) in
    let n = count_by (has_part_and_kind p part permanent) (all_faults p) in
    let some : 0 < n = omega (arith, more, count_take (has_part_and_kind p part permanent) (all_faults p) (i + 1)) in
    ap next_weight (are.each part within) ∙ ap (λ (s : Share). next_weight (less (so_far p part permanent i) s)) (shared_among rate n some)
    ∙ ap (λ (b : ℕ). rate / n + b) (left_or_none (so_far p part permanent i) (rate % n))
    ∙ sym (weight_share p part permanent i mine)

rate_within : (permanent : Bool) (part : Part) → rate_of_kind permanent part ≤ part.permanent + part.transient
rate_within true part = omega arith
rate_within false part = omega arith

whole_within : (rate n : ℕ) → (share_of_rate rate n).whole ≤ rate
whole_within rate zero = omega arith
whole_within rate (suc n) =
    let here : (suc n == 0) ≡ false = grind arith in
    rw here (div-le_self rate (suc n))

pub share_small : (p : Analysis) → IsRateTable p.rates → (permanent : Bool) (i : ℕ) (shares : List Share) (k : ℕ) → AreShares p permanent i shares
    → k < part_count p → (share_at shares k).whole < 2 ^ 63
share_small p table permanent i shares k are lt =
    let whole : (share_at shares k).whole ≡ (full_share p permanent k).whole = ap (λ (s : Share). s.whole) (are.each k lt) in
    let most = get_or-le-sum_by (λ (part : Part). part.permanent + part.transient) p.rates.parts k (record { name = []; role = Other; covered = false; permanent = 0; transient = 0 }) lt in
    omega (
      arith,
      whole,
      most,
      table.rates,
      rate_within permanent (part_numbered p k),
      whole_within (rate_of_kind permanent (part_numbered p k)) (count_by (has_part_and_kind p k permanent) (all_faults p)),
    )

-- ---- the shares of all parts

pub shares_push : (p : Analysis) (permanent : Bool) (k : ℕ) (shares : List Share) (share : Share) → length shares ≡ k
    → ((j : ℕ) → j < k → share_at shares j ≡ full_share p permanent j) → share ≡ full_share p permanent k
    → (j : ℕ) → j < k + 1 → share_at (shares ++ share ∷ []) j ≡ full_share p permanent j
shares_push p permanent k shares share size each e j lt =
    let split : (j < k) ⊎ (j ≡ k) = grind arith in
    elim split as (λ _. share_at (shares ++ share ∷ []) j ≡ full_share p permanent j) [
      | inl before ↦ get_or_append_left shares (share ∷ []) _ j (omega (arith, size, before)) ∙ each j before
      | inr here ↦ get_or-append_right shares (share ∷ []) k j _ size (omega (arith, here))
          ∙ (let none : j - k ≡ 0 = omega (arith, here) in ap (λ m. share_at (share ∷ []) m) none)
          ∙ e ∙ ap (full_share p permanent) (sym here)
    ]

pub all_shares : (p : Analysis) (permanent : Bool) (shares : List Share) → length shares ≡ part_count p
    → ((k : ℕ) → k < part_count p → share_at shares k ≡ full_share p permanent k) → AreShares p permanent 0 shares
all_shares p permanent shares size each = record {
  size = size;
  each = λ k lt. (each k lt ∙ (let same : (full_share p permanent k).left ≡ (full_share p permanent k).left - 0 = omega arith in
      ap (λ n. record { whole = (full_share p permanent k).whole; left = n }) same));
}

pub weights_push : (p : Analysis) (i : ℕ) (weights : List ℕ) (w : ℕ) → weights ≡ map (weight p) (below i) → w ≡ weight p i
    → weights ++ w ∷ [] ≡ map (weight p) (below (i + 1))
weights_push p i weights w so_far here =
    ap₂ (λ ws n. ws ++ n ∷ []) so_far here ∙ sym (ap (λ k. map (weight p) (below k)) (add-one i) ∙ map-below (weight p) i)

pub beq_true : (a b : Bool) → beq a b ≡ true → a ≡ b
beq_true true true e = refl
beq_true true false e = absurd (cc)
beq_true false true e = absurd (cc)
beq_true false false e = refl

pub beq_false : (a b : Bool) → beq a b ≡ false → a ≢ b
beq_false true true e = absurd (cc)
beq_false true false e = λ same. cc
beq_false false true e = λ same. cc
beq_false false false e = absurd (cc)

pub not_true : (b : Bool) → b ≡ false → b ≢ true
not_true b e same = cc

pub not_false : (b : Bool) → b ≡ true → b ≢ false
not_false b e same = cc

-- ---- idle rates

pub idle_more : {X : Type 0} (h : ℕ → Option X) (n : ℕ) → filter_map h (below n) ≡ [] → h n ≡ None → filter_map h (below (n + 1)) ≡ []
idle_more h n none here =
    ap (λ k. filter_map h (below k)) (add-one n) ∙ ap (filter_map h) (below_push n) ∙ filter_map-append h (below n) (n ∷ [])
    ∙ ap (λ xs. xs ++ filter_map h (n ∷ [])) none ∙ rw here refl

first_of_two : {X : Type 0} (xs ys : List X) (x : X) → slice_get xs 0 ≡ Some x → slice_get (xs ++ ys) 0 ≡ Some x
first_of_two [] ys x e = absurd (cc)
first_of_two (y ∷ xs) ys x e = e

pub idle_at : {X : Type 0} (h : ℕ → Option X) (x : X) (n k : ℕ) → k < n → filter_map h (below k) ≡ [] → h k ≡ Some x
    → slice_get (filter_map h (below n)) 0 ≡ Some x
idle_at h x zero k lt none here = absurd (omega arith)
idle_at {X} h x (suc n) k lt none here =
    let split : (k < n) ⊎ (k ≡ n) = grind arith in
    ap (λ xs. slice_get xs 0) (ap (filter_map h) (below_push n) ∙ filter_map-append h (below n) (n ∷ []))
    ∙ elim split as (λ _. slice_get (filter_map h (below n) ++ filter_map h (n ∷ [])) 0 ≡ Some x) [
      | inl before ↦ first_of_two (filter_map h (below n)) (filter_map h (n ∷ [])) x (idle_at h x n k before none here)
      | inr e ↦ subst (λ m. slice_get (filter_map h (below m) ++ filter_map h (m ∷ [])) 0 ≡ Some x) e
          (ap (λ xs. slice_get (xs ++ filter_map h (k ∷ [])) 0) none ∙ rw here refl)
    ]

idle_cases : (a b : Bool) (name : List ℕ)
    → (if a then Some (IdleRate name true) else if b then Some (IdleRate name false) else None)
    ≡ option_map (λ permanent. IdleRate name permanent) (if a then Some true else if b then Some false else None)
idle_cases true b name = refl
idle_cases false true name = refl
idle_cases false false name = refl

pub idle_by : (p : Analysis) (k c d : ℕ) (part : Part) → part ≡ part_numbered p k
    → c ≡ count_by (has_part_and_kind p k true) (all_faults p) → d ≡ count_by (has_part_and_kind p k false) (all_faults p)
    → idle_rate_of p k ≡ option_map (λ permanent. IdleRate part.name permanent) (idle_of part c d)
idle_by p k c d part own of_permanent of_transient =
    idle_cases (is_idle p true k) (is_idle p false k) (part_numbered p k).name
    ∙ (λ j. option_map (λ permanent. IdleRate (sym own j).name permanent) (idle_of (sym own j) (sym of_permanent j) (sym of_transient j)))

-- the item of a loop over the parts is the part of its number
pub part_there : (p : Analysis) (k : ℕ) (parts : List Part) (part : Part) → parts ≡ p.rates.parts → part ≡ get_or parts k part → k < part_count p
    → part ≡ part_numbered p k
part_there p k parts part e own lt = own ∙ ap (λ (ps : List Part). get_or ps k part) e ∙ get_or_default p.rates.parts k part _ lt
