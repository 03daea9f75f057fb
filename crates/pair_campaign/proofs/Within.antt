-- The faults of a pair are faults of the plan.
use Rattle.std.proofs.Common.{ℕ, ◌/◌, ◌%◌, ◌<◌, length, sym, subst}
use Rattle.campaign_plan.specs.Analysis.{Analysis, fault_count}
use Rattle.pair_list.specs.Chosen.{Chosen, AreFaults, pair_count, pair_numbered}
use Rattle.pair_list.proofs.Placing.{place_of, first_is, second_is}

pub first_within : (p : Analysis) (c : Chosen) (n : ℕ) → AreFaults p c → n < pair_count c → (pair_numbered c n).0 < fault_count p
first_within p c n are lt =
    subst (λ i. i < fault_count p) (sym (first_is c n lt)) (are.latent (n / length c.detected) 0 (place_of c.latent c.detected n lt).first)

pub second_within : (p : Analysis) (c : Chosen) (n : ℕ) → AreFaults p c → n < pair_count c → (pair_numbered c n).1 < fault_count p
second_within p c n are lt =
    subst (λ j. j < fault_count p) (sym (second_is c n lt)) (are.detected (n % length c.detected) 0 (place_of c.latent c.detected n lt).second)
