use Rattle.std.proofs.Common.{◌≡◌, ◌<◌, ◌^◌, ◌&&◌, ℕ, Bool, true, false, List, [], ◌∷◌, length, bit_and, ap, ap₂, ◌∙◌, arith}
use Rattle.std.specs.Prelude.{Some, None, if◌then◌else◌}
use Rattle.std.proofs.lemmas.Nat.{and_le_r}
use Rattle.std.proofs.Math.Bool.{and-true, and-false}
use Rattle.circuit.specs.declared.parts.Fault.{Fault}
use Rattle.fault_list.specs.Faults.{fault_at, fault_number, is_used}
use Rattle.fm_base.specs.Planes.{bit}
use Rattle.fm_base.proofs.Bits.{bit-plane_of, bit_of_and}
use Rattle.lane_words.specs.Loads.{somes}
use Rattle.campaign_plan.specs.declared.Outcome.{Outcome}
use Rattle.campaign_plan.specs.Batches.{outcome_of}
use Rattle.campaign_plan.specs.Danger.{is_dangerous, is_noticed}
use Rattle.classifier.proofs.PlaneBits.{plane_is}
use Rattle.metric_coverage.proofs.worker.of_batch.Goals as goal

-- a test of a lane's fault, where the lane is used
used_alone : (test : List Fault → Bool) (used : Bool) (fault : Fault) → (test (somes ((if used then Some fault else None) ∷ [])) && used) ≡ (used && test (fault ∷ []))
used_alone test true fault = and-true (test (fault ∷ []))
used_alone test false fault = and-false (test [])

-- the lanes in use of a plane
masked : (test : List Fault → Bool) (used : ℕ → Bool) (fault : ℕ → Fault) (plane mask : ℕ)
    → ((k : ℕ) → k < 64 → bit plane k ≡ test (somes ((if used k then Some (fault k) else None) ∷ [])))
    → ((k : ℕ) → k < 64 → bit mask k ≡ used k) → (k : ℕ) → k < 64 → bit (bit_and plane mask) k ≡ (used k && test (fault k ∷ []))
masked test used fault plane mask own in_use k lane =
    bit_of_and plane mask k ∙ ap₂ (λ a b. a && b) (own k lane) (in_use k lane) ∙ used_alone test (used k) (fault k)

pub returns : goal.returns
unfolding outcome_of
returns c = λ circuit points ftti runs has.
    let faults = c.args.faults.now in
    let batch = c.args.batch in
    let used : ℕ → Bool = is_used (length faults) batch in
    let alone : ℕ → Fault = λ k. fault_at faults (fault_number batch k) in
    let in_use : (k : ℕ) → k < 64 → bit c.used-used.result k ≡ used k = λ k lane. ap (λ plane. bit plane k) c.used-used.ensures ∙ bit-plane_of used k lane in
    let small : (plane : ℕ) → bit_and plane c.used-used.result < 2 ^ 64 = λ plane. omega (arith, and_le_r plane c.used-used.result, c.used-used.type_inv) in
    ap₂ (λ danger noticed. let planes : Outcome = record { danger = danger; noticed = noticed } in planes)
    (plane_is (bit_and c.args.loaded.danger c.used-used.result) _ (small c.args.loaded.danger)
    (masked (is_dangerous circuit points ftti runs) used alone c.args.loaded.danger c.used-used.result has.danger in_use))
    (plane_is (bit_and c.args.loaded.noticed c.used-used.result) _ (small c.args.loaded.noticed)
    (masked (is_noticed circuit points runs) used alone c.args.loaded.noticed c.used-used.result has.noticed in_use))
