-- The sums over the lanes of a batch, lane by lane.
use Rattle.std.proofs.Common.{◌≡◌, ℕ, ◌+◌, ◌*◌, ◌<◌, ◌≤◌, ◌^◌, Bool, true, false, List, [], ◌∷◌, ◌++◌, min, refl, ap, ap₂, sym, ◌∙◌, arith, add-one}
use Rattle.std.specs.Prelude.{filter, sum_by}
use Rattle.std.proofs.lemmas.List.{append-nil}
use Rattle.std.proofs.lemmas.List.Elements.{filter-append}
use Rattle.circuit.specs.Effects.{is_permanent}
use Rattle.fault_list.specs.Faults.{fault_number, is_used}
use Rattle.fm_base.specs.Lists.{below}
use Rattle.fm_base.specs.Planes.{bit}
use Rattle.fm_base.proofs.Below.{below_push}
use Rattle.metric_sums.specs.declared.Sums.{Sums}
use Rattle.metric_sums.specs.Totals.{AreSmall, no_sums, plus, share_of, sums_by}
use Rattle.metric_sums.proofs.Running.{sums_by_push}
use Rattle.metric_sums.proofs.Shares.{share_within, sums_within, consistent_within}
use Rattle.campaign_plan.specs.declared.Outcome.{Outcome}
use Rattle.campaign_plan.specs.Analysis.{Analysis, fault_count, fault_numbered}
use Rattle.campaign_plan.specs.Batches.{own_sums, lane_sums, class_with, class_in_lane}
use Rattle.campaign_plan.specs.Kept.{IsPlan}
use Rattle.campaign_plan.specs.Weights.{weight}
use Rattle.campaign_plan.proofs.Small.{cut, cut_is, weights_small}
use Rattle.fm_base.proofs.SumsBelow.{sum_up, sum_up-mono, sum_up-split, sum_by-below, sum_by-filter, where_true}

-- the lanes below m that hold faults
abbrev lanes_below : Analysis → ℕ → ℕ → List ℕ
lanes_below p batch m = filter (is_used (fault_count p) batch) (below m)

-- the sums over them
pub sums_below : Analysis → ℕ → Outcome → ℕ → Sums
sums_below p batch planes m = sums_by (lane_sums p batch planes) (lanes_below p batch m)

pub none_below : (p : Analysis) (batch : ℕ) (planes : Outcome) → no_sums ≡ sums_below p batch planes 0
unfolding sums_below below
none_below p batch planes = refl

pub all_below : (p : Analysis) (batch : ℕ) (planes : Outcome) (m : ℕ) → m ≡ 64 → sums_below p batch planes m ≡ own_sums p batch planes
unfolding sums_below own_sums
all_below p batch planes m e = ap (λ k. sums_by (lane_sums p batch planes) (lanes_below p batch k)) e

lanes_push : (p : Analysis) (batch m : ℕ) → lanes_below p batch (m + 1) ≡ lanes_below p batch m ++ filter (is_used (fault_count p) batch) (m ∷ [])
lanes_push p batch m =
    ap (lanes_below p batch) (add-one m) ∙ ap (filter (is_used (fault_count p) batch)) (below_push m)
    ∙ filter-append (is_used (fault_count p) batch) (below m) (m ∷ [])

lane_in : (p : Analysis) (batch m : ℕ) → is_used (fault_count p) batch m ≡ true → filter (is_used (fault_count p) batch) (m ∷ []) ≡ m ∷ []
lane_in p batch m e = rw e refl

lane_out : (p : Analysis) (batch m : ℕ) → is_used (fault_count p) batch m ≡ false → filter (is_used (fault_count p) batch) (m ∷ []) ≡ []
lane_out p batch m e = rw e refl

-- one more lane that holds a fault adds its own sums
pub one_more_lane : (p : Analysis) (batch : ℕ) (planes : Outcome) (m : ℕ) → fault_number batch m < fault_count p
    → sums_below p batch planes (m + 1) ≡ plus (sums_below p batch planes m) (lane_sums p batch planes m)
unfolding sums_below
one_more_lane p batch planes m lt =
    let used : is_used (fault_count p) batch m ≡ true = grind (arith, lt) in
    ap (sums_by (lane_sums p batch planes)) (lanes_push p batch m ∙ ap (λ ks. lanes_below p batch m ++ ks) (lane_in p batch m used))
    ∙ sums_by_push (lane_sums p batch planes) (lanes_below p batch m) m

-- the same of sums that the program has
pub sums_grow : (p : Analysis) (batch : ℕ) (planes : Outcome) (m : ℕ) (sums own : Sums) (dangerous noticed : Bool)
    → sums ≡ sums_below p batch planes m → dangerous ≡ bit planes.danger m → noticed ≡ bit planes.noticed m
    → own ≡ share_of (class_with p (64 * batch + m) dangerous noticed) (is_permanent (fault_numbered p (64 * batch + m))) (weight p (64 * batch + m))
    → 64 * batch + m < fault_count p → plus sums own ≡ sums_below p batch planes (m + 1)
sums_grow p batch planes m sums own dangerous noticed so_far d n adds lt =
    ap₂ plus so_far (adds ∙ ap₂ (λ a b. share_of (class_with p (64 * batch + m) a b) (is_permanent (fault_numbered p (64 * batch + m))) (weight p (64 * batch + m))) d n)
    ∙ sym (one_more_lane p batch planes m lt)

-- and one that holds none adds nothing
pub unused_lane : (p : Analysis) (batch : ℕ) (planes : Outcome) (m : ℕ) → fault_count p ≤ fault_number batch m
    → sums_below p batch planes (m + 1) ≡ sums_below p batch planes m
unfolding sums_below
unused_lane p batch planes m le =
    let unused : is_used (fault_count p) batch m ≡ false = grind (arith, le) in
    ap (sums_by (lane_sums p batch planes)) (lanes_push p batch m ∙ ap (λ ks. lanes_below p batch m ++ ks) (lane_out p batch m unused) ∙ append-nil (lanes_below p batch m))

abbrev lane_weight : Analysis → ℕ → ℕ → ℕ
lane_weight p batch lane = weight p (fault_number batch lane)

weights_below : (p : Analysis) (batch m : ℕ) → IsPlan p → sum_by (lane_weight p batch) (lanes_below p batch m) ≤ 10 ^ 18
weights_below p batch m plan =
    let n = fault_count p in
    let sums : sum_by (lane_weight p batch) (lanes_below p batch m) ≡ sum_up (λ k. cut (weight p) n (64 * batch + k)) m =
    sum_by-filter (is_used n batch) (lane_weight p batch) (below m)
    ∙ sum_by-below m (λ lane. where_true (is_used n batch lane) (lane_weight p batch lane)) in
    let within : min (64 * batch + m) n ≤ n = omega arith in
    omega (
      arith,
      sums,
      sum_up-split (64 * batch) m (cut (weight p) n),
      cut_is (weight p) n (64 * batch + m),
      sum_up-mono (min (64 * batch + m) n) n (weight p) within,
      weights_small p plan.rates,
    )

-- the sums over some lanes are small
pub small_below : (p : Analysis) (batch : ℕ) (planes : Outcome) (m : ℕ) → IsPlan p → AreSmall (sums_below p batch planes m)
unfolding sums_below
small_below p batch planes m plan =
    (consistent_within (sum_by (lane_weight p batch) (lanes_below p batch m)) _
    (sums_within (lane_sums p batch planes) (lane_weight p batch) (lanes_below p batch m)
    (λ lane. share_within (class_in_lane p batch planes lane) (is_permanent (fault_numbered p (fault_number batch lane))) (lane_weight p batch lane)))
    (weights_below p batch m plan)).small
