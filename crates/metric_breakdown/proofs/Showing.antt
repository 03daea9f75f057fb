-- The planes that were found of a batch add to the sums what its true planes add: bits of lanes without a fault aren't looked at.
use Rattle.std.proofs.Common.{◌≡◌, ℕ, zero, suc, ◌+◌, ◌<◌, ◌≤◌, Bool, true, List, [], ◌∷◌, inl, inr, refl, ap, ap₂, sym, ◌∙◌, subst, arith}
use Rattle.std.specs.Prelude.{Some, None, ◌&&◌, if◌then◌else◌}
use Rattle.std.proofs.lemmas.Bool.{cases_lt}
use Rattle.circuit.specs.declared.parts.Fault.{Fault}
use Rattle.circuit.specs.Circuit.{Circuit}
use Rattle.circuit.specs.Effects.{is_permanent}
use Rattle.fault_list.specs.Faults.{fault_at, fault_number, is_used}
use Rattle.fm_base.specs.Planes.{bit, plane_of}
use Rattle.fm_base.proofs.Bits.{bit-plane_of}
use Rattle.lane_words.specs.Loads.{somes}
use Rattle.workload.specs.declared.run.Run.{Run}
use Rattle.alarm_points.specs.declared.Points.{Points}
use Rattle.metric_sums.specs.Totals.{plus, share_of}
use Rattle.campaign_plan.specs.declared.Outcome.{Outcome}
use Rattle.campaign_plan.specs.Analysis.{Analysis, all_faults, fault_count, fault_numbered}
use Rattle.campaign_plan.specs.Batches.{class_with, lane_sums, outcome_of, own_sums, true_planes}
use Rattle.campaign_plan.specs.Danger.{is_dangerous, is_noticed}
use Rattle.campaign_plan.specs.Weights.{weight}
use Rattle.campaign_plan.proofs.Lanes.{all_below, none_below, one_more_lane, sums_below, unused_lane}
use Rattle.classifier.specs.Batch.{alone_in}
use Rattle.classifier.specs.Planes.{HasPlanes}
use Rattle.testbench.specs.Testbench.{IsTestbenchFor, Testbench}
use Rattle.reading_planes.specs.Readings.{ftti_by, points_by}
use Rattle.reading_planes.specs.declared.reading.Reading.{Reading}

-- a test of the fault in a lane in use
used_alone : (test : List Fault → Bool) (used : Bool) (fault : Fault) → used ≡ true → test (somes ((if used then Some fault else None) ∷ [])) ≡ test (fault ∷ [])
used_alone test used fault e = ap (λ (b : Bool). test (somes ((if b then Some fault else None) ∷ []))) e

used_bit : (used test : ℕ → Bool) (k : ℕ) → k < 64 → used k ≡ true → bit (plane_of (λ j. used j && test j)) k ≡ test k
used_bit used test k lt u = bit-plane_of (λ j. used j && test j) k lt ∙ ap (λ b. b && test k) u

-- q has the circuit, the faults and the weights of p, and points and an interval of its own
module _ (p q : Analysis) (batch : ℕ) (found : Outcome) (faults : all_faults q ≡ all_faults p)
    (has : HasPlanes q.circuit q.points q.settings.ftti q.runs (alone_in (all_faults p) (Some batch)) found) where
  used : (k : ℕ) → fault_number batch k < fault_count p → is_used (fault_count p) batch k ≡ true
  used k lt = grind (arith, lt)

  alone : ℕ → Fault
  alone k = fault_at (all_faults p) (fault_number batch k)

  true_danger : (k : ℕ) → k < 64 → fault_number batch k < fault_count p → bit (true_planes q batch).danger k ≡ is_dangerous q.circuit q.points q.settings.ftti q.runs (alone k ∷ [])
  unfolding outcome_of alone
  true_danger k lane lt =
      ap (λ (fs : List Fault). bit (outcome_of q.circuit q.points q.settings.ftti q.runs fs batch).danger k) faults
      ∙ used_bit (is_used (fault_count p) batch) (λ j. is_dangerous q.circuit q.points q.settings.ftti q.runs (fault_at (all_faults p) (fault_number batch j) ∷ [])) k lane (used k lt)

  true_notice : (k : ℕ) → k < 64 → fault_number batch k < fault_count p → bit (true_planes q batch).noticed k ≡ is_noticed q.circuit q.points q.runs (alone k ∷ [])
  unfolding outcome_of alone
  true_notice k lane lt =
      ap (λ (fs : List Fault). bit (outcome_of q.circuit q.points q.settings.ftti q.runs fs batch).noticed k) faults
      ∙ used_bit (is_used (fault_count p) batch) (λ j. is_noticed q.circuit q.points q.runs (fault_at (all_faults p) (fault_number batch j) ∷ [])) k lane (used k lt)

  same_danger : (k : ℕ) → k < 64 → fault_number batch k < fault_count p → bit found.danger k ≡ bit (true_planes q batch).danger k
  unfolding alone
  same_danger k lane lt =
      has.danger k lane
      ∙ used_alone (is_dangerous q.circuit q.points q.settings.ftti q.runs) (is_used (fault_count p) batch k) (fault_at (all_faults p) (fault_number batch k)) (used k lt)
      ∙ sym (true_danger k lane lt)

  same_notice : (k : ℕ) → k < 64 → fault_number batch k < fault_count p → bit found.noticed k ≡ bit (true_planes q batch).noticed k
  unfolding alone
  same_notice k lane lt =
      has.noticed k lane
      ∙ used_alone (is_noticed q.circuit q.points q.runs) (is_used (fault_count p) batch k) (fault_at (all_faults p) (fault_number batch k)) (used k lt)
      ∙ sym (true_notice k lane lt)

  same_lane : (k : ℕ) → k < 64 → fault_number batch k < fault_count p → lane_sums p batch found k ≡ lane_sums p batch (true_planes q batch) k
  same_lane k lane lt =
      ap₂ (λ dangerous noticed. share_of (class_with p (fault_number batch k) dangerous noticed) (is_permanent (fault_numbered p (fault_number batch k))) (weight p (fault_number batch k)))
      (same_danger k lane lt) (same_notice k lane lt)

  same_below : (m : ℕ) → m ≤ 64 → sums_below p batch found m ≡ sums_below p batch (true_planes q batch) m
  same_below zero le = sym (none_below p batch found) ∙ none_below p batch (true_planes q batch)
  same_below (suc m) le =
      let next : suc m ≡ m + 1 = omega arith in
      let before : sums_below p batch found m ≡ sums_below p batch (true_planes q batch) m = same_below m (omega (arith, le)) in
      elim (cases_lt (fault_number batch m) (fault_count p)) as (λ _. sums_below p batch found (suc m) ≡ sums_below p batch (true_planes q batch) (suc m)) [
        | inl lt ↦ ap (sums_below p batch found) next ∙ one_more_lane p batch found m lt
            ∙ ap₂ plus before (same_lane m (omega (arith, le)) lt)
            ∙ sym (ap (sums_below p batch (true_planes q batch)) next ∙ one_more_lane p batch (true_planes q batch) m lt)
        | inr behind ↦ ap (sums_below p batch found) next ∙ unused_lane p batch found m behind
            ∙ before
            ∙ sym (ap (sums_below p batch (true_planes q batch)) next ∙ unused_lane p batch (true_planes q batch) m behind)
      ]

  pub adds_truly : own_sums p batch found ≡ own_sums p batch (true_planes q batch)
  adds_truly = sym (all_below p batch found 64 refl) ∙ same_below 64 (omega arith) ∙ all_below p batch (true_planes q batch) 64 refl

-- what was found on a testbench of the plan, in the plan's own terms
pub found_of : (p : Analysis) (reading : Reading) (bench : Testbench) → IsTestbenchFor p bench → (ftti : ℕ) → ftti ≡ p.settings.ftti
    → (faults : List Fault) → faults ≡ all_faults p → (first batch : ℕ) → first ≡ batch → (found : Outcome)
    → HasPlanes bench.circuit (points_by bench.points reading) (ftti_by ftti reading) bench.runs (alone_in faults (Some first)) found
    → HasPlanes p.circuit (points_by p.points reading) (ftti_by p.settings.ftti reading) p.runs (alone_in (all_faults p) (Some batch)) found
found_of p reading bench is ftti interval faults all first batch same found has =
    subst (λ (b : ℕ). HasPlanes p.circuit (points_by p.points reading) (ftti_by p.settings.ftti reading) p.runs (alone_in (all_faults p) (Some b)) found) same
    (subst (λ (fs : List Fault). HasPlanes p.circuit (points_by p.points reading) (ftti_by p.settings.ftti reading) p.runs (alone_in fs (Some first)) found) all
    (subst (λ (n : ℕ). HasPlanes p.circuit (points_by p.points reading) (ftti_by n reading) p.runs (alone_in faults (Some first)) found) interval
    (subst (λ (runs : List Run). HasPlanes p.circuit (points_by p.points reading) (ftti_by ftti reading) runs (alone_in faults (Some first)) found) is.runs
    (subst (λ (ps : Points). HasPlanes p.circuit (points_by ps reading) (ftti_by ftti reading) bench.runs (alone_in faults (Some first)) found) is.points
    (subst (λ (c : Circuit). HasPlanes c (points_by bench.points reading) (ftti_by ftti reading) bench.runs (alone_in faults (Some first)) found) is.circuit has)))))
