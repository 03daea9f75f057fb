-- The sums over the first batches, in rising order.
use Rattle.std.proofs.Common.{◌≡◌, ◌≢◌, ℕ, zero, suc, ◌+◌, ◌<◌, ◌≤◌, List, map, refl, ap, sym, ◌∙◌, arith}
use Rattle.std.specs.Prelude.{All}
use Rattle.std.specs.List.{range_with_len}
use Rattle.std.proofs.lemmas.List.Elements.{All-nil, All-cons}
use Rattle.metric_sums.specs.declared.Sums.{Sums}
use Rattle.metric_sums.specs.Totals.{plus, no_sums, AreConsistent}
use Rattle.metric_sums.proofs.Running.{sums_by_push}
use Rattle.fm_base.specs.Lists.{below}
use Rattle.fm_base.specs.Once.{Lacks, IsOnce}
use Rattle.fm_base.proofs.Below.{map-below}
use Rattle.campaign_plan.specs.Analysis.{Analysis, batch_count}
use Rattle.campaign_plan.specs.Batches.{Entry, total, batches, own_sums, AreDistinct}
use Rattle.campaign_plan.specs.Kept.{IsPlan}
use Rattle.campaign_plan.proofs.Small.{consistent_sums}
use Rattle.result_file.specs.RowPlanes.{Planes}

-- the batches below k, with their planes
abbrev pub first_entries : Planes → ℕ → List Entry
first_entries planes k = map (λ batch. (batch, planes batch)) (below k)

-- the sums over the batches below k
abbrev pub sums_below : Analysis → Planes → ℕ → Sums
sums_below p planes k = total p (first_entries planes k)

pub sums_more : (p : Analysis) (planes : Planes) (k : ℕ) → sums_below p planes (suc k) ≡ plus (sums_below p planes k) (own_sums p k (planes k))
sums_more p planes k =
    ap (total p) (map-below (λ batch. (batch, planes batch)) k)
    ∙ sums_by_push (λ (entry : Entry). own_sums p entry.0 entry.1) (first_entries planes k) (k, planes k)

pub sums_no_batch : (p : Analysis) (planes : Planes) → no_sums ≡ sums_below p planes 0
unfolding below
sums_no_batch p planes = refl

-- ---- distinct batches

abbrev entries_from : Planes → ℕ → ℕ → List Entry
entries_from planes a n = map (λ batch. (batch, planes batch)) (range_with_len a n)

lacks_lower : (planes : Planes) (a n x : ℕ) → x < a → Lacks (batches (entries_from planes a n)) x
lacks_lower planes a zero x lt = tt
lacks_lower planes a (suc n) x lt =
    let apart : a ≢ x = omega (arith, lt) in
    (apart, lacks_lower planes (a + 1) n x (omega (arith, lt)))

once_from : (planes : Planes) (a n : ℕ) → IsOnce (batches (entries_from planes a n))
once_from planes a zero = tt
once_from planes a (suc n) = (lacks_lower planes (a + 1) n a (omega arith), once_from planes (a + 1) n)

within_from : (planes : Planes) (a n bound : ℕ) → a + n ≤ bound → All (λ batch. batch < bound) (batches (entries_from planes a n))
within_from planes a zero bound le = All-nil (λ batch. batch < bound)
within_from planes a (suc n) bound le =
    All-cons (λ batch. batch < bound) a (batches (entries_from planes (a + 1) n)) (omega (arith, le)) (within_from planes (a + 1) n bound (omega (arith, le)))

distinct_first : (p : Analysis) (planes : Planes) (k : ℕ) → k ≤ batch_count p → AreDistinct p (first_entries planes k)
unfolding below
distinct_first p planes k le = record { within = within_from planes 0 k (batch_count p) (omega (arith, le)); once = once_from planes 0 k }

-- the sums over the first batches of a plan are consistent, whatever the planes
pub consistent_below : (p : Analysis) → IsPlan p → (planes : Planes) (k : ℕ) → k ≤ batch_count p → AreConsistent (sums_below p planes k)
consistent_below p plan planes k le = consistent_sums p plan (first_entries planes k) (distinct_first p planes k le)

-- running sums: those of the first batches, and one more
pub sums_step : (p : Analysis) (planes : Planes) (k : ℕ) (sums own : Sums) → sums ≡ sums_below p planes k → own ≡ own_sums p k (planes k)
    → plus sums own ≡ sums_below p planes (k + 1)
sums_step p planes k sums own e f =
    let next : suc k ≡ k + 1 = omega arith in
    ap (λ s. plus s own) e ∙ ap (plus (sums_below p planes k)) f ∙ sym (sums_more p planes k) ∙ ap (sums_below p planes) next
