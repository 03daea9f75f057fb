-- The lanes of a plane that hold pairs.
use Rattle.std.proofs.Common.{◌≡◌, ℕ, ◌^◌, ◌-◌, ◌<◌, ◌≤◌, ◌&&◌, Bool, true, false, List, [], bit_and, refl, ap, ap₂, sym, ◌∙◌, arith}
use Rattle.std.specs.Prelude.{if◌then◌else◌, nat_lt, ◌==◌}
use Rattle.std.proofs.lemmas.Nat.{and_le_r}
use Rattle.std.proofs.lemmas.Nat.Bits.{bit_at_ones, bit_at_ones_above}
use Rattle.circuit.specs.declared.parts.Fault.{Fault}
use Rattle.fault_list.specs.Faults.{fault_number, is_used}
use Rattle.fm_base.specs.Planes.{bit}
use Rattle.fm_base.proofs.Bits.{bit_of_and}
use Rattle.campaign_plan.specs.Analysis.{Analysis}
use Rattle.campaign_plan.specs.Danger.{is_dangerous}
use Rattle.campaign_plan.specs.declared.Outcome.{Outcome}
use Rattle.classifier.proofs.PlaneBits.{plane_is}
use Rattle.pair_list.specs.Chosen.{Chosen, pair_count, pair_numbered}
use Rattle.pair_campaign.specs.Together.{is_dangerous_pair}
use Rattle.pair_campaign.specs.Work.{both_faults, ShowsPlane}
use Rattle.pair_campaign.specs.PairPlanes.{pair_plane}
use Rattle.std.proofs.Math.Bool.{and-true, and-false}

-- the first lanes, so many of them
pub bit_of_first : (count k : ℕ) → bit (2 ^ count - 1) k ≡ nat_lt k count
bit_of_first count k = by_cases (nat_lt k count) refl
  where
    by_cases : (b : Bool) → nat_lt k count ≡ b → bit (2 ^ count - 1) k ≡ nat_lt k count
    by_cases true e = let lt : k < count = grind (arith, e) in ap (λ n. n == 1) (bit_at_ones count k lt) ∙ sym e
    by_cases false e = let past : count ≤ k = grind (arith, e) in ap (λ n. n == 1) (bit_at_ones_above count k past) ∙ sym e

-- a test of a lane's pair, where the lane is used
used_both : (test : List Fault → Bool) (used : Bool) (pair : List Fault) → (test (if used then pair else []) && used) ≡ (used && test pair)
used_both test true pair = and-true (test pair)
used_both test false pair = and-false (test [])

-- the danger of all lanes, and of these those that hold pairs, is the plane of the pairs
pub masked_plane : (p : Analysis) (c : Chosen) (q : ℕ) (outcome : Outcome) (mask : ℕ) → mask < 2 ^ 64 → ShowsPlane p c q outcome
    → ((k : ℕ) → k < 64 → bit mask k ≡ is_used (pair_count c) q k) → bit_and outcome.danger mask ≡ pair_plane p c q
masked_plane p c q outcome mask small shown used =
    plane_is (bit_and outcome.danger mask) (λ k. is_used (pair_count c) q k && is_dangerous_pair p (pair_numbered c (fault_number q k)))
    (omega (arith, and_le_r outcome.danger mask, small))
    (λ k lane.
    bit_of_and outcome.danger mask k ∙ ap₂ (λ a b. a && b) (shown k lane) (used k lane)
    ∙ used_both (is_dangerous p.circuit p.points p.settings.ftti p.runs) (is_used (pair_count c) q k) (both_faults p (pair_numbered c (fault_number q k))))
