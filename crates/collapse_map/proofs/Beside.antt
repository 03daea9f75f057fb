-- In a fault list those of one kind on one net or one latch stand beside one another.
use Rattle.std.proofs.Common.{◌≡◌, ◌⊎◌, inl, inr, ℕ, ◌+◌, ◌-◌, ◌*◌, ◌/◌, ◌%◌, ◌<◌, ◌≤◌, Bool, true, false, not, List, length, refl, ap, ap₂, sym, subst, ◌∙◌, arith}
use Rattle.std.specs.Prelude.{◌==◌, slice_index}
use Rattle.std.specs.List.{position_or_len}
use Rattle.std.proofs.lemmas.Bool.{eq-eqb}
use Rattle.std.proofs.lemmas.List.Sums.{prefix_len_passes, prefix_len_stops}
use Rattle.circuit.specs.declared.parts.Fault.{Fault}
use Rattle.circuit.specs.declared.parts.Fault.TheVariants.{Stuck, Flip, Pulse}
use Rattle.circuit.specs.declared.parts.NetId.{NetId}
use Rattle.circuit.specs.Circuit.{Circuit}
use Rattle.fault_list.specs.Faults.{fault_at, faults_for, net}
use Rattle.fault_list.specs.Kept.{count_for, flip_count, stuck_count}
use Rattle.fault_list.proofs.Numbers.{flip_at, length_faults, pulse_at, stuck_at}
use Rattle.fm_base.proofs.Tests.{clash, not_not}
use Rattle.collapse_map.specs.Collapsed.{AreFaultsOf, number_in_list, same_fault}
use Rattle.collapse_map.specs.Numbers.{are_beside}
use Rattle.collapse_map.proofs.Numbered.{same_fault_self, same_fault_true}
use Rattle.std.proofs.Math.Nat.{div-mul-le_self}
use Rattle.std.proofs.lemmas.Nat.{le-div}
use Rattle.std.proofs.lemmas.List.Sums.{position_or_len_is}
use Rattle.fault_list.proofs.Rows.{some_wide}

div_mono : (a b k : ℕ) → 0 < k → a ≤ b → a / k ≤ b / k
div_mono a b k some le = le-div (a / k) b k some (let low = div-mul-le_self a k in omega arith)

between_div : (q j i k : ℕ) → 0 < k → q ≤ j → j ≤ i → i / k ≡ q / k → i / k ≡ j / k
between_div q j i k some low high same = let a = div_mono q j k some low in let b = div_mono j i k some high in omega arith

-- the number of a fault's net or latch
stuck_net : (n m : NetId) (v w : Bool) → Stuck n v ≡ Stuck m w → n.0 ≡ m.0
stuck_net n m v w e = let same : n ≡ m = cc in ap (λ (x : NetId). x.0) same

pulse_net : (n m : NetId) (t u : ℕ) → Pulse n t ≡ Pulse m u → n.0 ≡ m.0
pulse_net n m t u e = let same : n ≡ m = cc in ap (λ (x : NetId). x.0) same

flip_latch : (l k t u : ℕ) → Flip l t ≡ Flip k u → l ≡ k
flip_latch l k t u e = cc

module _ (nets latches : ℕ) (flips pulses : List ℕ) where
  abbrev faults : List Fault
  faults = faults_for nets latches flips pulses

  abbrev stuck : ℕ
  stuck = stuck_count nets

  abbrev flipped : ℕ
  flipped = flip_count latches flips

  -- where the first and the last of three are the same, all three are beside one another
  module _ (q j i : ℕ) (low : q ≤ j) (high : j ≤ i) (within : i < count_for nets latches flips pulses) (same : fault_at faults i ≡ fault_at faults q) where
    abbrev Beside : Type 0
    Beside = are_beside (fault_at faults i) (fault_at faults j) ≡ true

    of_stuck : i < stuck → Beside
    of_stuck lt =
        let at = stuck_at nets latches flips pulses in
        let of_i = at i lt in
        let of_j = at j (omega (arith, high, lt)) in
        let of_q = at q (omega (arith, low, high, lt)) in
        let nets_same : i / 2 ≡ q / 2 = stuck_net (net (i / 2)) (net (q / 2)) (i % 2 == 1) (q % 2 == 1) (sym of_i ∙ same ∙ of_q) in
        ap₂ are_beside of_i of_j ∙ eq-eqb (i / 2) (j / 2) (between_div q j i 2 (omega arith) low high nets_same)

    of_flips : stuck ≤ q → i - stuck < flipped → Beside
    of_flips le lt =
        let at = flip_at nets latches flips pulses in
        let of_i = at i (omega (arith, low, high, le)) lt in
        let of_j = at j (omega (arith, low, le)) (omega (arith, high, lt)) in
        let of_q = at q le (omega (arith, low, high, lt)) in
        let some : 0 < length flips = some_wide latches (i - stuck) (length flips) lt in
        let latches_same : (i - stuck) / length flips ≡ (q - stuck) / length flips =
        flip_latch ((i - stuck) / length flips) ((q - stuck) / length flips) (slice_index flips ((i - stuck) % length flips)) (slice_index flips ((q - stuck) % length flips))
        (sym of_i ∙ same ∙ of_q) in
        ap₂ are_beside of_i of_j
        ∙ eq-eqb ((i - stuck) / length flips) ((j - stuck) / length flips)
        (between_div (q - stuck) (j - stuck) (i - stuck) (length flips) some (omega (arith, low)) (omega (arith, high)) latches_same)

    of_pulses : stuck + flipped ≤ q → Beside
    of_pulses le =
        let at = pulse_at nets latches flips pulses in
        let of_i = at i (omega (arith, low, high, le)) within in
        let of_j = at j (omega (arith, low, le)) (omega (arith, high, within)) in
        let of_q = at q le (omega (arith, low, high, within)) in
        let some : 0 < length pulses = some_wide nets (i - stuck - flipped) (length pulses) (omega (arith, low, high, le, within)) in
        let nets_same : (i - stuck - flipped) / length pulses ≡ (q - stuck - flipped) / length pulses =
        pulse_net (net ((i - stuck - flipped) / length pulses)) (net ((q - stuck - flipped) / length pulses))
        (slice_index pulses ((i - stuck - flipped) % length pulses)) (slice_index pulses ((q - stuck - flipped) % length pulses))
        (sym of_i ∙ same ∙ of_q) in
        ap₂ are_beside of_i of_j
        ∙ eq-eqb ((i - stuck - flipped) / length pulses) ((j - stuck - flipped) / length pulses)
        (between_div (q - stuck - flipped) (j - stuck - flipped) (i - stuck - flipped) (length pulses) some (omega (arith, low)) (omega (arith, high)) nets_same)

    between : Beside
    between = by_end (grind arith)
      where
        by_end : (i < stuck) ⊎ ((stuck ≤ i) × (i - stuck < flipped)) ⊎ (stuck + flipped ≤ i) → Beside
        by_end (inl lt) = of_stuck lt
        by_end (inr (inl (le, lt))) = by_first (grind arith)
          where
            by_first : (q < stuck) ⊎ (stuck ≤ q) → Beside
            by_first (inl first) =
                let of_i = flip_at nets latches flips pulses i le lt in
                let of_q = stuck_at nets latches flips pulses q first in
                absurd (cc)
            by_first (inr from) = of_flips from lt
        by_end (inr (inr le)) = by_first (grind arith)
          where
            of_i : fault_at faults i ≡ Pulse (net ((i - stuck - flipped) / length pulses)) (slice_index pulses ((i - stuck - flipped) % length pulses))
            of_i = pulse_at nets latches flips pulses i le within

            by_first : (q < stuck) ⊎ ((stuck ≤ q) × (q - stuck < flipped)) ⊎ (stuck + flipped ≤ q) → Beside
            by_first (inl first) = let of_q = stuck_at nets latches flips pulses q first in absurd (cc (of_i, of_q, same))
            by_first (inr (inl (from, upto))) = let of_q = flip_at nets latches flips pulses q from upto in absurd (cc (of_i, of_q, same))
            by_first (inr (inr from)) = of_pulses from

-- WHAT IS LIKE A FAULT stands beside it, and all between them too
pub far_apart : (c : Circuit) (fs : List Fault) (q j i : ℕ) → AreFaultsOf c fs → q ≤ j → j ≤ i → i < length fs
    → are_beside (fault_at fs i) (fault_at fs j) ≡ false → same_fault (fault_at fs i) (fault_at fs q) ≡ false
far_apart c fs q j i listed low high lt apart = by_test (same_fault (fault_at fs i) (fault_at fs q)) refl
  where
    by_test : (b : Bool) → same_fault (fault_at fs i) (fault_at fs q) ≡ b → b ≡ false
    by_test false e = refl
    by_test true e =
        let same : fault_at fs i ≡ fault_at fs q = same_fault_true (fault_at fs i) (fault_at fs q) e in
        let size : length fs ≡ count_for (length c.drivers) (length c.latches) listed.flips listed.pulses =
        ap length listed.listed ∙ length_faults (length c.drivers) (length c.latches) listed.flips listed.pulses in
        let beside = subst (λ (xs : List Fault). fault_at xs i ≡ fault_at xs q → are_beside (fault_at xs i) (fault_at xs j) ≡ true) (sym listed.listed)
        (between (length c.drivers) (length c.latches) listed.flips listed.pulses q j i low high (omega (arith, size, lt))) same in
        absurd (clash (are_beside (fault_at fs i) (fault_at fs j)) beside apart)

-- THE NUMBER OF A FAULT is that of the first like it
pub number_is : (fs : List Fault) (i first : ℕ) → i < length fs → first ≤ i → same_fault (fault_at fs i) (fault_at fs first) ≡ true
    → ((q : ℕ) → q < first → same_fault (fault_at fs i) (fault_at fs q) ≡ false) → first ≡ number_in_list fs (fault_at fs i)
number_is fs i first lt le same before =
    sym (position_or_len_is (same_fault (fault_at fs i)) fs first (Stuck (net 0) false) (omega arith) before (λ _. same))
