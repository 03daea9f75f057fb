-- A table of planes is that of all batches: behind the last there is no fault.
use Rattle.std.proofs.Common.{◌≡◌, ℕ, ◌+◌, ◌*◌, ◌/◌, ◌<◌, ◌≤◌, ◌^◌, Bool, false, List, [], ◌∷◌, length, inl, inr, ap, ap₂, sym, ◌∙◌, arith}
use Rattle.std.specs.Prelude.{◌&&◌}
use Rattle.std.specs.Int.{div_ceil}
use Rattle.std.proofs.Math.Nat.{mul_assoc}
use Rattle.std.proofs.lemmas.Bool.{cases_lt}
use Rattle.std.proofs.lemmas.Grind.{div_ceil_times}
use Rattle.std.proofs.lemmas.List.{get_or_past}
use Rattle.fault_list.specs.Faults.{fault_at, fault_number, is_used}
use Rattle.fm_base.specs.Planes.{plane_of}
use Rattle.alarm_points.proofs.Planes.{bit_of_none}
use Rattle.campaign_plan.specs.declared.Outcome.{Outcome}
use Rattle.campaign_plan.specs.Analysis.{Analysis, all_faults, batch_count, fault_count}
use Rattle.campaign_plan.specs.Batches.{outcome_of, true_planes}
use Rattle.campaign_plan.specs.Danger.{is_dangerous, is_noticed}
use Rattle.classifier.proofs.PlaneBits.{plane_is}
use Rattle.fmeda_report.specs.Tallies.{planes_in_order}

-- no lane of such a batch is in use
unused : (count batch lane : ℕ) → (count + 63) / 64 ≤ batch → is_used count batch lane ≡ false
unused count batch lane le = grind (arith, le)

none : (used test : ℕ → Bool) → ((k : ℕ) → used k ≡ false) → 0 ≡ plane_of (λ k. used k && test k)
none used test idle =
    let small : 0 < 2 ^ 64 = omega arith in
    plane_is 0 (λ k. used k && test k) small (λ k lane. bit_of_none k ∙ sym (ap (λ b. b && test k) (idle k)))

abbrev nothing : Outcome
nothing = record { danger = 0; noticed = 0 }

behind : (q : Analysis) (batch : ℕ) → batch_count q ≤ batch → nothing ≡ true_planes q batch
unfolding outcome_of
behind q batch le =
    ap₂ (λ danger noticed. let planes : Outcome = record { danger = danger; noticed = noticed } in planes)
    (none (is_used (fault_count q) batch) (λ k. is_dangerous q.circuit q.points q.settings.ftti q.runs (fault_at (all_faults q) (fault_number batch k) ∷ []))
    (λ k. unused (fault_count q) batch k le))
    (none (is_used (fault_count q) batch) (λ k. is_noticed q.circuit q.points q.runs (fault_at (all_faults q) (fault_number batch k) ∷ []))
    (λ k. unused (fault_count q) batch k le))

pub all_planes : (q : Analysis) (planes : List Outcome) → length planes ≡ batch_count q
    → ((batch : ℕ) → batch < batch_count q → planes_in_order planes batch ≡ true_planes q batch) → planes_in_order planes ≡ true_planes q
all_planes q planes count each = λ j batch. one batch j
  where
    one : (batch : ℕ) → planes_in_order planes batch ≡ true_planes q batch
    one batch = elim (cases_lt batch (batch_count q)) [
      | inl lt ↦ each batch lt
      | inr le ↦ get_or_past planes batch nothing (omega (arith, le, count)) ∙ behind q batch le
    ]

-- the turns are enough for all batches
pub turns_enough : (faults workers : ℕ) → 0 < workers → (faults + 63) / 64 ≤ 4 * div_ceil faults (256 * workers) * workers
turns_enough faults workers some =
    let d : ℕ = div_ceil faults (256 * workers) in
    let stride : 0 < 256 * workers = omega (arith, some) in
    let most : faults ≤ d * (256 * workers) = (div_ceil_times faults (256 * workers) stride).0 in
    let left : d * 256 * workers ≡ d * (256 * workers) = mul_assoc d 256 workers in
    let swap : d * 256 ≡ 256 * d = omega arith in
    let right : 256 * d * workers ≡ 256 * (d * workers) = mul_assoc 256 d workers in
    let same : d * 256 * workers ≡ 256 * d * workers = ap (λ m. m * workers) swap in
    let four : 4 * d * workers ≡ 4 * (d * workers) = mul_assoc 4 d workers in
    omega (arith, most, left, same, right, four)
