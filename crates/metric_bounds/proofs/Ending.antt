-- The planes of all batches at an end, by the table of kept batches.
use Rattle.std.proofs.Common.{◌≡◌, ◌∙◌, ap, ap₂, sym, refl, ℕ, zero, suc, ◌+◌, ◌*◌, ◌^◌, ◌%◌, ◌<◌, Bool, true, false, List, [], ◌∷◌, ◌++◌, map, bit_or, add-one, arith}
use Rattle.std.specs.Prelude.{◌&&◌, not, unwrap_or, if◌then◌else◌}
use Rattle.std.specs.Int.Bits.{or_zero_r}
use Rattle.std.proofs.Math.Nat.{mod-eq_of_lt, one-mul}
use Rattle.std.proofs.Math.Pow.{pow-lt}
use Rattle.fm_base.specs.Lists.{below}
use Rattle.fm_base.specs.Planes.{plane_below}
use Rattle.fm_base.proofs.Below.{map-below}
use Rattle.fault_list.specs.Faults.{fault_number, is_used}
use Rattle.campaign_plan.specs.Analysis.{Analysis, batch_count, fault_count}
use Rattle.campaign_plan.specs.Batches.{Entry, total}
use Rattle.fmeda_report.specs.Report.{all_sums}
use Rattle.result_file.specs.RowPlanes.{Planes}
use Rattle.result_merge.specs.Tables.{Table, at_batch, planes_table}
use Rattle.result_merge.proofs.Tabling.{table_at}
use Rattle.metric_bounds.specs.declared.End.{End}
use Rattle.metric_bounds.specs.Missing.{planes_when_missing, planes_at_end}
use Rattle.metric_bounds.specs.Steps.{is_on_mechanism}

-- the planes of a batch by the table, or else those at the end
abbrev pub planes_by : Analysis → Table → End → Planes
planes_by p table end batch = unwrap_or (at_batch table batch) (planes_when_missing p end batch)

pub same_below : {X : Type 0} (f g : ℕ → X) (n : ℕ) → ((k : ℕ) → k < n → f k ≡ g k) → map f (below n) ≡ map g (below n)
unfolding below
same_below f g zero each = refl
same_below f g (suc n) each =
    map-below f n ∙ ap₂ (λ xs x. xs ++ x ∷ []) (same_below f g n (λ k lt. each k (omega (arith, lt)))) (each n (omega arith)) ∙ sym (map-below g n)

pub same_sums : (p : Analysis) (table : Table) (entries : List Entry) (end : End) → table ≡ planes_table (batch_count p) entries
    → all_sums p (planes_by p table end) ≡ all_sums p (planes_at_end p entries end)
same_sums p table entries end e =
    ap (total p) (same_below (λ batch. (batch, planes_by p table end batch)) (λ batch. (batch, planes_at_end p entries end batch)) (batch_count p)
    (λ k lt. ap (λ kept. (k, unwrap_or kept (planes_when_missing p end k))) (ap (λ t. at_batch t k) e ∙ table_at (batch_count p) entries k lt)))

-- ---- a plane, lane by lane

small_power : (lane : ℕ) → lane < 64 → 1 * 2 ^ lane % 18446744073709551616 ≡ 2 ^ lane
small_power lane lt =
    let small : 1 * 2 ^ lane < 18446744073709551616 = omega (arith, pow-lt {i = lane} {j = 64} lt) in
    mod-eq_of_lt small ∙ one-mul (2 ^ lane)

pub lane_set : (test : ℕ → Bool) (lane plane : ℕ) → lane < 64 → plane ≡ plane_below lane test → test lane ≡ true
    → bit_or plane (1 * 2 ^ lane % 18446744073709551616) ≡ plane_below (lane + 1) test
unfolding plane_below
lane_set test lane plane lt e here =
    ap₂ bit_or e (small_power lane lt ∙ sym (ap (λ b. if b then 2 ^ lane else 0) here)) ∙ ap (λ n. plane_below n test) (sym (add-one lane))

pub lane_left : (test : ℕ → Bool) (lane plane : ℕ) → plane ≡ plane_below lane test → test lane ≡ false → plane ≡ plane_below (lane + 1) test
unfolding plane_below
lane_left test lane plane e here =
    e ∙ sym (or_zero_r (plane_below lane test)) ∙ ap (bit_or (plane_below lane test)) (sym (ap (λ b. if b then 2 ^ lane else 0) here))
    ∙ ap (λ n. plane_below n test) (sym (add-one lane))

pub no_lane : (test : ℕ → Bool) → 0 ≡ plane_below 0 test
unfolding plane_below
no_lane test = refl

-- a lane holds a fault of anything but a safety mechanism
abbrev pub other_lane : Analysis → ℕ → ℕ → Bool
other_lane p batch lane = is_used (fault_count p) batch lane && not (is_on_mechanism p (fault_number batch lane))
