-- What planes and batches say of a fault is so of it alone.
use Rattle.std.proofs.Common.{◌≡◌, ℕ, zero, suc, ◌+◌, ◌*◌, ◌/◌, ◌%◌, ◌<◌, ◌≤◌, Bool, true, [], ◌∷◌, min, ap, ap₂, sym, ◌∙◌, arith}
use Rattle.std.specs.Prelude.{◌&&◌, sum_by, nat_lt}
use Rattle.std.proofs.Math.Nat.{div-add-mod, mod-lt}
use Rattle.circuit.specs.Effects.{is_permanent}
use Rattle.fault_list.specs.Faults.{batches_for, fault_at, fault_number, is_used, used_lanes}
use Rattle.fm_base.specs.Lists.{below}
use Rattle.fm_base.specs.Planes.{bit, plane_of}
use Rattle.fm_base.proofs.Bits.{bit-plane_of}
use Rattle.metric_sums.specs.declared.Sums.{Sums}
use Rattle.metric_sums.specs.Totals.{share_of}
use Rattle.campaign_plan.specs.declared.Outcome.{Outcome}
use Rattle.campaign_plan.specs.Analysis.{Analysis, all_faults, batch_count, fault_count, fault_numbered}
use Rattle.campaign_plan.specs.Batches.{Entry, class_in_lane, class_of_fault, class_with, in_order, lane_sums, outcome_of, own_sums, true_planes}
use Rattle.campaign_plan.specs.Danger.{is_dangerous, is_noticed}
use Rattle.campaign_plan.specs.Laws.{FaultsAreClassedAlone, SumsAreOfFaults, TrueSumsAreOfFaultsAlone, class_alone, fault_share}
use Rattle.campaign_plan.specs.Weights.{weight}
use Rattle.campaign_plan.proofs.Small.{blocks, cut, cut_is}
use Rattle.fm_base.proofs.SumsBelow.{sum_up, sum_up-zero, sum_up-push, sum_by-below, sum_by-filter, where_true, sum_by-map}
use Rattle.fault_list.proofs.Numbers.{lane_back}

-- ---- places

lane_small : (i : ℕ) → i % 64 < 64
lane_small i = mod-lt i (omega arith)

batch_there : (b k : ℕ) → k < 64 → (64 * b + k) / 64 ≡ b
batch_there b k lt =
    let whole : 64 * ((64 * b + k) / 64) + (64 * b + k) % 64 ≡ 64 * b + k = div-add-mod (64 * b + k) 64 in
    let rest : (64 * b + k) % 64 < 64 = lane_small (64 * b + k) in
    omega (arith, whole, rest, lt)

lane_there : (b k : ℕ) → k < 64 → (64 * b + k) % 64 ≡ k
lane_there b k lt =
    let whole : 64 * ((64 * b + k) / 64) + (64 * b + k) % 64 ≡ 64 * b + k = div-add-mod (64 * b + k) 64 in
    omega (arith, whole, batch_there b k lt)

-- ---- the class of a fault

-- the bit of a lane in use is the test of its fault
used_bit : (used test : ℕ → Bool) (k : ℕ) → k < 64 → used k ≡ true → bit (plane_of (λ j. used j && test j)) k ≡ test k
used_bit used test k lt u = bit-plane_of (λ j. used j && test j) k lt ∙ ap (λ b. b && test k) u

in_use : (p : Analysis) (i : ℕ) → i < fault_count p → is_used (fault_count p) (i / 64) (i % 64) ≡ true
in_use p i lt = rw (lane_back i) (grind (arith, lt))

danger_bit : (p : Analysis) (i : ℕ) → i < fault_count p
    → bit (true_planes p (i / 64)).danger (i % 64) ≡ is_dangerous p.circuit p.points p.settings.ftti p.runs (fault_numbered p i ∷ [])
unfolding outcome_of
danger_bit p i lt =
    used_bit (is_used (fault_count p) (i / 64))
    (λ k. is_dangerous p.circuit p.points p.settings.ftti p.runs (fault_at (all_faults p) (fault_number (i / 64) k) ∷ []))
    (i % 64) (lane_small i) (in_use p i lt)
    ∙ ap (λ n. is_dangerous p.circuit p.points p.settings.ftti p.runs (fault_at (all_faults p) n ∷ [])) (lane_back i)

notice_bit : (p : Analysis) (i : ℕ) → i < fault_count p
    → bit (true_planes p (i / 64)).noticed (i % 64) ≡ is_noticed p.circuit p.points p.runs (fault_numbered p i ∷ [])
unfolding outcome_of
notice_bit p i lt =
    used_bit (is_used (fault_count p) (i / 64))
    (λ k. is_noticed p.circuit p.points p.runs (fault_at (all_faults p) (fault_number (i / 64) k) ∷ []))
    (i % 64) (lane_small i) (in_use p i lt)
    ∙ ap (λ n. is_noticed p.circuit p.points p.runs (fault_at (all_faults p) n ∷ [])) (lane_back i)

pub classed_alone : FaultsAreClassedAlone
classed_alone p i lt =
    ap (λ n. class_with p n (bit (true_planes p (i / 64)).danger (i % 64)) (bit (true_planes p (i / 64)).noticed (i % 64))) (lane_back i)
    ∙ ap₂ (class_with p i) (danger_bit p i lt) (notice_bit p i lt)

-- ---- sums over all batches

sum_up-same : (n : ℕ) (f g : ℕ → ℕ) → ((k : ℕ) → k < n → f k ≡ g k) → sum_up f n ≡ sum_up g n
sum_up-same zero f g same = sum_up-zero f ∙ sym (sum_up-zero g)
sum_up-same (suc n) f g same =
    omega (arith, sum_up-push n f, sum_up-push n g, same n (omega arith), sum_up-same n f g (λ k lt. same k (omega (arith, lt))))

-- the batches have room for all faults
room : (n : ℕ) → n ≤ 64 * batches_for n
room n =
    let whole : 64 * ((n + 63) / 64) + (n + 63) % 64 ≡ n + 63 = div-add-mod (n + 63) 64 in
    let rest : (n + 63) % 64 < 64 = lane_small (n + 63) in
    omega (arith, whole, rest)

module _ (p : Analysis) (planes : ℕ → Outcome) (field : Sums → ℕ) where
  pub share : ℕ → ℕ
  share i = field (fault_share p (class_of_fault p planes) i)

  lane_share : (b k : ℕ) → k < 64 → field (lane_sums p b (planes b) k) ≡ share (64 * b + k)
  unfolding share
  lane_share b k lt =
      sym (ap₂ (λ batch lane. field (share_of (class_in_lane p batch (planes batch) lane) (is_permanent (fault_numbered p (64 * b + k))) (weight p (64 * b + k)))) (batch_there b k lt) (lane_there b k lt))

  lanes_share : (b : ℕ) → sum_by (λ k. field (lane_sums p b (planes b) k)) (used_lanes (fault_count p) b) ≡ sum_up (λ k. cut share (fault_count p) (64 * b + k)) 64
  lanes_share b =
      sum_by-filter (is_used (fault_count p) b) (λ k. field (lane_sums p b (planes b) k)) (below 64)
      ∙ sum_by-below 64 (λ k. where_true (is_used (fault_count p) b k) (field (lane_sums p b (planes b) k)))
      ∙ sum_up-same 64 (λ k. where_true (is_used (fault_count p) b k) (field (lane_sums p b (planes b) k))) (λ k. cut share (fault_count p) (64 * b + k))
      (λ k lt. ap (where_true (nat_lt (64 * b + k) (fault_count p))) (lane_share b k lt))

  pub batches_share : sum_by (λ (e : Entry). sum_by (λ k. field (lane_sums p e.0 e.1 k)) (used_lanes (fault_count p) e.0)) (in_order p planes) ≡ sum_by share (below (fault_count p))
  batches_share =
      let n = fault_count p in
      let m = batch_count p in
      let one : ℕ → ℕ = λ b. sum_by (λ k. field (lane_sums p b (planes b) k)) (used_lanes n b) in
      let whole : min (64 * m) n ≡ n = (let le = room n in omega (arith, le)) in
      sum_by-map (λ (e : Entry). sum_by (λ k. field (lane_sums p e.0 e.1 k)) (used_lanes n e.0)) (λ b. (b, planes b)) (below m)
      ∙ sum_by-below m one
      ∙ sum_up-same m one (λ b. sum_up (λ k. cut share n (64 * b + k)) 64) (λ b _. lanes_share b)
      ∙ blocks (cut share n) m ∙ cut_is share n (64 * m) ∙ ap (sum_up share) whole ∙ sym (sum_by-below n share)

pub sums_of_faults : SumsAreOfFaults
unfolding own_sums share
sums_of_faults p planes = λ i. record {
  permanent_all = batches_share p planes (λ s. s.permanent_all) i;
  permanent_danger = batches_share p planes (λ s. s.permanent_danger) i;
  latent = batches_share p planes (λ s. s.latent) i;
  transient_all = batches_share p planes (λ s. s.transient_all) i;
  transient_danger = batches_share p planes (λ s. s.transient_danger) i;
}

-- equal shares of all faults have equal sums
sum_by-same : (n : ℕ) (f g : ℕ → ℕ) → ((k : ℕ) → k < n → f k ≡ g k) → sum_by f (below n) ≡ sum_by g (below n)
sum_by-same n f g same = sum_by-below n f ∙ sum_up-same n f g same ∙ sym (sum_by-below n g)

pub true_sums_alone : TrueSumsAreOfFaultsAlone
true_sums_alone p = sums_of_faults p (true_planes p) ∙ (λ i. record {
  permanent_all = same (λ s. s.permanent_all) i;
  permanent_danger = same (λ s. s.permanent_danger) i;
  latent = same (λ s. s.latent) i;
  transient_all = same (λ s. s.transient_all) i;
  transient_danger = same (λ s. s.transient_danger) i;
})
  where
    same : (field : Sums → ℕ)
        → sum_by (λ i. field (fault_share p (class_of_fault p (true_planes p)) i)) (below (fault_count p)) ≡ sum_by (λ i. field (fault_share p (class_alone p) i)) (below (fault_count p))
    same field = sum_by-same (fault_count p) (λ i. field (fault_share p (class_of_fault p (true_planes p)) i)) (λ i. field (fault_share p (class_alone p) i))
        (λ i lt. ap (λ class. field (share_of class (is_permanent (fault_numbered p i)) (weight p i))) (classed_alone p i lt))
