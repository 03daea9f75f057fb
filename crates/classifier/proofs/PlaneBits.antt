-- Planes are known by their bits.
use Rattle.std.proofs.Common.{◌≡◌, ℕ, zero, suc, ◌^◌, ◌<◌, Bool, List, refl, ap, ap₂, sym, ◌∙◌, subst, arith}
use Rattle.std.specs.Prelude.{◌==◌}
use Rattle.std.specs.Int.{bit_at}
use Rattle.std.proofs.lemmas.Bool.{true≢false}
use Rattle.std.proofs.lemmas.Nat.Bits.{bit_at-lt, same_from_bits_below}
use Rattle.fm_base.specs.Planes.{bit, plane_of}
use Rattle.fm_base.proofs.Bits.{bit-plane_of, plane_small}
use Rattle.circuit.specs.declared.parts.Fault.{Fault}
use Rattle.circuit.specs.Circuit.{Circuit}
use Rattle.workload.specs.declared.run.Run.{Run}
use Rattle.alarm_points.specs.declared.Points.{Points}
use Rattle.alarm_points.proofs.Planes.{bit_of_none}
use Rattle.campaign_plan.specs.declared.Outcome.{Outcome}
use Rattle.campaign_plan.specs.Danger.{is_dangerous, is_noticed}
use Rattle.classifier.specs.OutOfReach.{AreOutOfReach, IsDeaf, IsHarmless}
use Rattle.classifier.specs.declared.reached.OutOfReach.{OutOfReach}
use Rattle.classifier.specs.Planes.{HasPlanes, planes_of}

same_one : (x y : ℕ) → x < 2 → y < 2 → (x == 1) ≡ (y == 1) → x ≡ y
same_one zero zero p q e = refl
same_one zero (suc zero) p q e = absurd (cc)
same_one (suc zero) zero p q e = absurd (cc)
same_one (suc zero) (suc zero) p q e = refl
same_one (suc (suc x)) y p q e = absurd (omega arith)
same_one x (suc (suc y)) p q e = absurd (omega arith)

-- a word whose bits are the lanes' tests is the plane of the tests
pub plane_is : (word : ℕ) (test : ℕ → Bool) → word < 2 ^ 64 → ((k : ℕ) → k < 64 → bit word k ≡ test k) → word ≡ plane_of test
plane_is word test small each =
    same_from_bits_below 64 word (plane_of test) small (plane_small 64 test)
    (λ k lane. same_one (bit_at word k) (bit_at (plane_of test) k) (bit_at-lt word k) (bit_at-lt (plane_of test) k) (each k lane ∙ sym (bit-plane_of test k lane)))

-- the planes of danger and of notice are those whose bits are right
pub planes_are : (c : Circuit) (points : Points) (ftti : ℕ) (runs : List Run) (faults : ℕ → List Fault) (outcome : Outcome)
    → HasPlanes c points ftti runs faults outcome → outcome ≡ planes_of c points ftti runs faults
unfolding planes_of
planes_are c points ftti runs faults outcome has =
    ap₂ (λ danger noticed. let planes : Outcome = record { danger = danger; noticed = noticed } in planes)
    (plane_is outcome.danger (λ k. is_dangerous c points ftti runs (faults k)) has.fits.0 has.danger)
    (plane_is outcome.noticed (λ k. is_noticed c points runs (faults k)) has.fits.1 has.noticed)

-- lanes with the same faults have the same planes
pub planes_alike : (c : Circuit) (points : Points) (ftti : ℕ) (runs : List Run) (faults others : ℕ → List Fault) (outcome : Outcome)
    → ((k : ℕ) → k < 64 → faults k ≡ others k) → HasPlanes c points ftti runs faults outcome → HasPlanes c points ftti runs others outcome
planes_alike c points ftti runs faults others outcome same has = record {
  fits = has.fits;
  danger = λ k lane. has.danger k lane ∙ ap (is_dangerous c points ftti runs) (same k lane);
  noticed = λ k lane. has.noticed k lane ∙ ap (is_noticed c points runs) (same k lane);
}

pub planes_have : (c : Circuit) (points : Points) (ftti : ℕ) (runs : List Run) (faults : ℕ → List Fault) → HasPlanes c points ftti runs faults (planes_of c points ftti runs faults)
unfolding planes_of
planes_have c points ftti runs faults = record {
  fits = (plane_small 64 (λ k. is_dangerous c points ftti runs (faults k)), plane_small 64 (λ k. is_noticed c points runs (faults k)));
  danger = bit-plane_of (λ k. is_dangerous c points ftti runs (faults k));
  noticed = bit-plane_of (λ k. is_noticed c points runs (faults k));
}

pub planes_same : (c : Circuit) (points : Points) (ftti : ℕ) (runs : List Run) (faults others : ℕ → List Fault) → ((k : ℕ) → k < 64 → faults k ≡ others k)
    → planes_of c points ftti runs faults ≡ planes_of c points ftti runs others
planes_same c points ftti runs faults others same =
    planes_are c points ftti runs others (planes_of c points ftti runs faults)
    (planes_alike c points ftti runs faults others (planes_of c points ftti runs faults) same (planes_have c points ftti runs faults))

-- lanes with the same faults are out of reach alike
pub reach_alike : (c : Circuit) (points : Points) (faults others : ℕ → List Fault) (reach : OutOfReach) → ((k : ℕ) → k < 64 → others k ≡ faults k)
    → AreOutOfReach c points faults reach → AreOutOfReach c points others reach
reach_alike c points faults others reach same is = record {
  alarm = λ k lane marked. subst (IsDeaf c points) (sym (same k lane)) (is.alarm k lane marked);
  observation = λ k lane marked. subst (IsHarmless c points) (sym (same k lane)) (is.observation k lane marked);
}

-- where no lane is marked, each that is marked is out of reach
pub none_marked : (c : Circuit) (points : Points) (faults : ℕ → List Fault) → AreOutOfReach c points faults (record { alarm = 0; observation = 0 })
none_marked c points faults = record {
  alarm = λ k lane marked. absurd (true≢false (sym marked ∙ bit_of_none k));
  observation = λ k lane marked. absurd (true≢false (sym marked ∙ bit_of_none k));
}
