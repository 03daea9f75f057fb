-- The representative of each fault of a list is in the list, at its number.
use Rattle.std.proofs.Common.{◌≡◌, ◌⊎◌, inl, inr, ℕ, zero, suc, ◌+◌, ◌*◌, ◌/◌, ◌%◌, ◌<◌, ◌≤◌, Bool, true, false, not, List, length, refl, ap, ap₂, sym, subst, ◌∙◌, arith}
use Rattle.std.specs.Prelude.{Option, Some, None, ◌==◌}
use Rattle.std.specs.Option.{option_map_or}
use Rattle.std.proofs.lemmas.Bool.{eq-eqb, eqb-true, both_ways, not-true}
use Rattle.std.proofs.lemmas.List.Sums.{prefix_len_passes, prefix_len_stops}
use Rattle.circuit.specs.declared.parts.Fault.{Fault}
use Rattle.circuit.specs.declared.parts.Fault.TheVariants.{Stuck, Flip, Pulse}
use Rattle.circuit.specs.declared.parts.NetId.{NetId}
use Rattle.circuit.specs.Circuit.{Circuit}
use Rattle.circuit.specs.Sound.{IsNetlist}
use Rattle.fault_list.specs.Faults.{fault_at, faults_of}
use Rattle.fault_list.specs.Kept.{count_for}
use Rattle.fault_list.proofs.Numbers.{length_faults, stuck_at}
use Rattle.fm_base.specs.Lists.{same_bit}
use Rattle.fm_base.proofs.Tests.{and_both, both_true, same_bit_true, not_not}
use Rattle.collapse_map.specs.Collapsed.{AreFaultsOf, Collapsed, number_in_list, rep_of, same_fault}
use Rattle.collapse_map.specs.Next.{follow, next_fault, representative}
use Rattle.collapse_map.proofs.NextFault.{IsNext, next_is}

-- ---- the same fault

same_bit_self : (v : Bool) → same_bit v v ≡ true
same_bit_self true = refl
same_bit_self false = refl

pub net_is : (n m : NetId) → n.0 ≡ m.0 → n ≡ m
net_is n m e = ap numbered e
  where
    numbered : ℕ → NetId
    numbered k = record { 0 = k }

pub same_fault_true : (f g : Fault) → same_fault f g ≡ true → f ≡ g
same_fault_true (Stuck n v) (Stuck m w) e =
    let parts = and_both (n.0 == m.0) (same_bit v w) e in
    ap₂ Stuck (net_is n m (eqb-true n.0 m.0 parts.0)) (same_bit_true v w parts.1)
same_fault_true (Flip l t) (Flip k u) e = let parts = and_both (l == k) (t == u) e in ap₂ Flip (eqb-true l k parts.0) (eqb-true t u parts.1)
same_fault_true (Pulse n t) (Pulse m u) e =
    let parts = and_both (n.0 == m.0) (t == u) e in ap₂ Pulse (net_is n m (eqb-true n.0 m.0 parts.0)) (eqb-true t u parts.1)
same_fault_true f g e = cc

pub same_fault_self : (f : Fault) → same_fault f f ≡ true
same_fault_self (Stuck n v) = both_true (n.0 == n.0) (same_bit v v) (eq-eqb n.0 n.0 refl) (same_bit_self v)
same_fault_self (Flip l t) = both_true (l == l) (t == t) (eq-eqb l l refl) (eq-eqb t t refl)
same_fault_self (Pulse n t) = both_true (n.0 == n.0) (t == t) (eq-eqb n.0 n.0 refl) (eq-eqb t t refl)

-- ---- numbers

-- a fault that stands in a list stands at its number
pub number_there : (faults : List Fault) (f : Fault) (k : ℕ) → k < length faults → fault_at faults k ≡ f
    → (number_in_list faults f < length faults) × (fault_at faults (number_in_list faults f) ≡ f)
number_there faults f k lt e =
    let first : number_in_list faults f ≤ k = by_order (grind arith) in
    let within : number_in_list faults f < length faults = omega arith in (
      within,
      sym (same_fault_true f (fault_at faults (number_in_list faults f)) (not_not (same_fault f (fault_at faults (number_in_list faults f)))
          (prefix_len_stops (λ g. not (same_fault f g)) faults no_fault within))),
    )
  where
    no_fault : Fault
    no_fault = Stuck (record { 0 = 0 }) false

    by_order : (number_in_list faults f ≤ k) ⊎ (k < number_in_list faults f) → number_in_list faults f ≤ k
    by_order (inl le) = le
    by_order (inr before) =
        absurd (both_ways (same_fault f (fault_at faults k)) (not-true (same_fault f (fault_at faults k)) (prefix_len_passes (λ g. not (same_fault f g)) faults k no_fault before)) (ap (same_fault f) e ∙ same_fault_self f))

-- each stuck-at fault of a net stands in the list
stuck_there : (c : Circuit) (flips pulses : List ℕ) (m : NetId) (u : Bool) → m.0 < length c.drivers
    → (k : ℕ) × (k < length (faults_of c flips pulses)) × (fault_at (faults_of c flips pulses) k ≡ Stuck m u)
stuck_there c flips pulses m u lt = by_value u refl
  where
    size : length (faults_of c flips pulses) ≡ count_for (length c.drivers) (length c.latches) flips pulses
    size = length_faults (length c.drivers) (length c.latches) flips pulses

    stuck_numbered : ℕ → Bool → Fault
    stuck_numbered n v = Stuck (record { 0 = n }) v

    by_value : (v : Bool) → u ≡ v → (k : ℕ) × (k < length (faults_of c flips pulses)) × (fault_at (faults_of c flips pulses) k ≡ Stuck m u)
    by_value false e =
        let half : 2 * m.0 / 2 ≡ m.0 = omega arith in
        let odd : 2 * m.0 % 2 ≡ 0 = omega arith in (
          2 * m.0,
          (let total = size in omega arith),
          stuck_at (length c.drivers) (length c.latches) flips pulses (2 * m.0) (omega arith)
              ∙ ap₂ stuck_numbered half (ap (λ r. r == 1) odd ∙ sym e),
        )
    by_value true e =
        let half : (2 * m.0 + 1) / 2 ≡ m.0 = omega arith in
        let odd : (2 * m.0 + 1) % 2 ≡ 1 = omega arith in (
          2 * m.0 + 1,
          (let total = size in omega arith),
          stuck_at (length c.drivers) (length c.latches) flips pulses (2 * m.0 + 1) (omega arith)
              ∙ ap₂ stuck_numbered half (ap (λ r. r == 1) odd ∙ sym e),
        )

-- what is followed is the fault itself, or a stuck-at fault of a net
follow_is : (c : Circuit) (watched : List NetId) → IsNetlist c → (steps : ℕ) (f : Fault)
    → (follow steps c watched f ≡ f) ⊎ ((m : NetId) × (u : Bool) × (m.0 < length c.drivers) × (follow steps c watched f ≡ Stuck m u))
unfolding follow
follow_is c watched sound zero f = inl refl
follow_is c watched sound (suc steps) f = by_next (next_fault c watched f) refl (follow_is c watched sound steps)
  where
    by_next : (o : Option Fault) → next_fault c watched f ≡ o
        → ((g : Fault) → (follow steps c watched g ≡ g) ⊎ ((m : NetId) × (u : Bool) × (m.0 < length c.drivers) × (follow steps c watched g ≡ Stuck m u)))
        → (option_map_or (follow steps c watched) o f ≡ f) ⊎ ((m : NetId) × (u : Bool) × (m.0 < length c.drivers) × (option_map_or (follow steps c watched) o f ≡ Stuck m u))
    by_next None e more = inl refl
    by_next (Some g) e more =
        let is : IsNext c watched f g = next_is c watched f g sound e in
        elim (more g) as (λ _. (follow steps c watched g ≡ f) ⊎ ((m : NetId) × (u : Bool) × (m.0 < length c.drivers) × (follow steps c watched g ≡ Stuck m u))) [
          | inl same ↦ inr (is.m, is.u, is.pair.net, same ∙ is.back)
          | inr other ↦ inr other
        ]

-- THE REPRESENTATIVE of a fault of the list has a number in it
pub rep_there : (s : Collapsed) → IsNetlist s.circuit → AreFaultsOf s.circuit s.faults → (i : ℕ) → i < length s.faults
    → (rep_of s i < length s.faults) × (fault_at s.faults (rep_of s i) ≡ representative s.circuit s.watched (fault_at s.faults i))
unfolding rep_of
rep_there s sound listed i lt = by_cases (follow_is s.circuit s.watched sound (length s.circuit.tables) (fault_at s.faults i))
  where
    f : Fault
    f = fault_at s.faults i

    r : Fault
    r = representative s.circuit s.watched f

    by_cases : (r ≡ f) ⊎ ((m : NetId) × (u : Bool) × (m.0 < length s.circuit.drivers) × (r ≡ Stuck m u)) → (number_in_list s.faults r < length s.faults) × (fault_at s.faults (number_in_list s.faults r) ≡ r)
    by_cases (inl same) = number_there s.faults r i lt (sym same)
    by_cases (inr other) =
        let there = subst (λ (faults : List Fault). (k : ℕ) × (k < length faults) × (fault_at faults k ≡ Stuck other.0 other.1)) (sym listed.listed)
        (stuck_there s.circuit listed.flips listed.pulses other.0 other.1 other.2) in
        number_there s.faults r there.0 there.1 (there.2 ∙ sym other.3)
