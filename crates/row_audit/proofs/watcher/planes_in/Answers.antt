use Rattle.std.proofs.Common.{◌≡◌, ◌<◌, ◌^◌, ◌&&◌, ℕ, Bool, true, false, List, [], ◌∷◌, length, bit_and, refl, ap, ap₂, sym, ◌∙◌, arith}
use Rattle.std.specs.Prelude.{Option, Some, None, if◌then◌else◌}
use Rattle.std.proofs.lemmas.Nat.{and_le_l}
use Rattle.circuit.specs.declared.parts.Fault.{Fault}
use Rattle.fault_list.specs.Faults.{fault_at, fault_in_lane, fault_number, is_used}
use Rattle.fm_base.specs.Planes.{bit}
use Rattle.fm_base.proofs.Bits.{bit-plane_of, bit_of_and}
use Rattle.lane_words.specs.Loads.{somes}
use Rattle.campaign_plan.specs.declared.Outcome.{Outcome}
use Rattle.campaign_plan.specs.Batches.{outcome_of}
use Rattle.campaign_plan.specs.Danger.{is_dangerous, is_noticed}
use Rattle.classifier.specs.Batch.{outcome_for}
use Rattle.classifier.proofs.PlaneBits.{plane_is}
use Rattle.row_audit.proofs.watcher.planes_in.Goals as goal

-- a test of a lane's fault, where the lane is used
used_list : (test : List Fault → Bool) (used : Bool) (fault : Fault) → (used && test (somes ((if used then Some fault else None) ∷ []))) ≡ (used && test (fault ∷ []))
used_list test true fault = refl
used_list test false fault = refl

-- the lanes in use of a plane
in_use_of : (test : List Fault → Bool) (used : ℕ → Bool) (fault : ℕ → Fault) (lanes : ℕ → List Fault) (mask plane : ℕ)
    → ((k : ℕ) → k < 64 → bit mask k ≡ used k) → ((k : ℕ) → k < 64 → bit plane k ≡ test (lanes k))
    → ((k : ℕ) → k < 64 → lanes k ≡ somes ((if used k then Some (fault k) else None) ∷ [])) → (k : ℕ) → k < 64 → bit (bit_and mask plane) k ≡ (used k && test (fault k ∷ []))
in_use_of test used fault lanes mask plane in_use own held k lane =
    bit_of_and mask plane k ∙ ap₂ (λ a b. a && b) (in_use k lane) (own k lane ∙ ap test (held k lane)) ∙ used_list test (used k) (fault k)

pub returns : goal.returns
unfolding outcome_of
returns c = λ circuit points ftti runs lanes same has.
    let faults = c.args.faults.now in
    let batch = c.in-Some.batch in
    let used = is_used (length faults) batch in
    let mask = c.used-used.result in
    let alone = λ (k : ℕ). fault_at faults (fault_number batch k) in
    let in_use : (k : ℕ) → k < 64 → bit mask k ≡ used k = λ k lane. ap (λ plane. bit plane k) c.used-used.ensures ∙ bit-plane_of used k lane in
    let held : (k : ℕ) → k < 64 → lanes k ≡ somes ((if used k then Some (alone k) else None) ∷ []) =
    λ k lane. same k lane ∙ ap (λ (b : Option ℕ). somes (fault_in_lane faults b k ∷ [])) c.in-Some.is in
    let small : (plane : ℕ) → bit_and mask plane < 2 ^ 64 = λ plane. omega (arith, and_le_l mask plane, c.used-used.type_inv) in
    ap₂ (λ danger noticed. let planes : Outcome = record { danger = danger; noticed = noticed } in planes)
    (plane_is (bit_and mask c.args.loaded.danger) _ (small c.args.loaded.danger)
    (in_use_of (is_dangerous circuit points ftti runs) used alone lanes mask c.args.loaded.danger in_use has.danger held))
    (plane_is (bit_and mask c.args.loaded.noticed) _ (small c.args.loaded.noticed)
    (in_use_of (is_noticed circuit points runs) used alone lanes mask c.args.loaded.noticed in_use has.noticed held))
    ∙ sym (ap (outcome_for circuit points ftti runs faults) c.in-Some.is)
