-- The fault list by numbers: how long it is, and the fault of each number.
use Rattle.std.proofs.Common.{◌≡◌, ℕ, zero, suc, ◌+◌, ◌*◌, ◌-◌, ◌/◌, ◌%◌, ◌<◌, ◌≤◌, true, false, List, [], ◌∷◌, ◌++◌, length, map, get_or, refl, ap, ap₂, sym, ◌∙◌, arith, length-append}
use Rattle.std.specs.Prelude.{◌==◌, slice_index}
use Rattle.std.specs.List.{flat_map, range_with_len}
use Rattle.std.proofs.lemmas.List.{get_or_append_left, get_or-append_right, get_or-map, length-map}
use Rattle.circuit.specs.declared.parts.Fault.{Fault}
use Rattle.circuit.specs.declared.parts.Fault.TheVariants.{Stuck, Flip, Pulse}
use Rattle.circuit.specs.declared.parts.Latch.{Latch}
use Rattle.circuit.specs.Circuit.{Circuit}
use Rattle.fm_base.specs.Lists.{below}
use Rattle.fault_list.specs.Faults.{net, faults_for, faults_of, fault_at, fault_number}
use Rattle.fault_list.specs.Kept.{stuck_count, flip_count, count_for}
use Rattle.fault_list.proofs.Rows.{some_wide, rows_length, rows_number}
use Rattle.std.proofs.Math.Nat.{mod-lt}

-- a net stuck at 0, and then at 1; a latch flipped, and a pulse on a net, in each of these cycles
abbrev stuck_pair : ℕ → List Fault
stuck_pair n = Stuck (net n) false ∷ Stuck (net n) true ∷ []

abbrev flips_of : List ℕ → ℕ → List Fault
flips_of cycles latch = map (λ cycle. Flip latch cycle) cycles

abbrev pulses_of : List ℕ → ℕ → List Fault
pulses_of cycles n = map (λ cycle. Pulse (net n) cycle) cycles

module _ (nets latches : ℕ) (flips pulses : List ℕ) where
  abbrev stuck : List Fault
  stuck = flat_map stuck_pair (range_with_len 0 nets)

  abbrev flipped : List Fault
  flipped = flat_map (flips_of flips) (range_with_len 0 latches)

  abbrev pulsed : List Fault
  pulsed = flat_map (pulses_of pulses) (range_with_len 0 nets)

  parts : faults_for nets latches flips pulses ≡ stuck ++ flipped ++ pulsed
  unfolding faults_for below
  parts = refl

  stuck_wide : (n : ℕ) → length (stuck_pair n) ≡ 2
  stuck_wide n = refl

  flips_wide : (n : ℕ) → length (flips_of flips n) ≡ length flips
  flips_wide n = length-map flips (λ cycle. Flip n cycle)

  pulses_wide : (n : ℕ) → length (pulses_of pulses n) ≡ length pulses
  pulses_wide n = length-map pulses (λ cycle. Pulse (net n) cycle)

  length_stuck : length stuck ≡ stuck_count nets
  length_stuck = rows_length stuck_pair 2 stuck_wide 0 nets

  length_flipped : length flipped ≡ flip_count latches flips
  length_flipped = rows_length (flips_of flips) (length flips) flips_wide 0 latches

  length_first : length (stuck ++ flipped) ≡ stuck_count nets + flip_count latches flips
  length_first = let a = length_stuck in let b = length_flipped in omega (arith, length-append stuck flipped)

  -- the length of the list
  pub length_faults : length (faults_for nets latches flips pulses) ≡ count_for nets latches flips pulses
  length_faults =
      let a = length_first in
      let b : length pulsed ≡ nets * length pulses = rows_length (pulses_of pulses) (length pulses) pulses_wide 0 nets in
      ap length parts ∙ omega (arith, length-append (stuck ++ flipped) pulsed)

  no_fault : Fault
  no_fault = Stuck (net 0) false

  -- the first faults are the nets' stuck-at-0 and stuck-at-1 in turn
  pub stuck_at : (i : ℕ) → i < stuck_count nets → fault_at (faults_for nets latches flips pulses) i ≡ Stuck (net (i / 2)) (i % 2 == 1)
  stuck_at i lt =
      ap (λ faults. fault_at faults i) parts
      ∙ get_or_append_left (stuck ++ flipped) pulsed (Stuck (net 0) false) i (let size = length_first in omega arith)
      ∙ get_or_append_left stuck flipped (Stuck (net 0) false) i (let size = length_stuck in omega arith)
      ∙ rows_number stuck_pair 2 stuck_wide nets i (Stuck (net 0) false) lt ∙ which (i % 2) (omega arith)
    where
      which : (r : ℕ) → r < 2 → get_or (stuck_pair (i / 2)) r (Stuck (net 0) false) ≡ Stuck (net (i / 2)) (r == 1)
      which zero h = refl
      which (suc zero) h = refl
      which (suc (suc r)) h = absurd (omega arith)

  -- then come the flips
  pub flip_at : (i : ℕ) → stuck_count nets ≤ i → i - stuck_count nets < flip_count latches flips
      → fault_at (faults_for nets latches flips pulses) i
      ≡ Flip ((i - stuck_count nets) / length flips) (slice_index flips ((i - stuck_count nets) % length flips))
  flip_at i le lt =
      let j = i - stuck_count nets in
      ap (λ faults. fault_at faults i) parts
      ∙ get_or_append_left (stuck ++ flipped) pulsed (Stuck (net 0) false) i (let size = length_first in omega arith)
      ∙ get_or-append_right stuck flipped (stuck_count nets) i (Stuck (net 0) false) length_stuck le
      ∙ rows_number (flips_of flips) (length flips) flips_wide latches j (Stuck (net 0) false) lt
      ∙ get_or-map (λ cycle. Flip (j / length flips) cycle) flips (j % length flips) 0 (Stuck (net 0) false) (mod-lt j (some_wide latches j (length flips) lt))

  -- and then the pulses
  pub pulse_at : (i : ℕ) → stuck_count nets + flip_count latches flips ≤ i → i < count_for nets latches flips pulses
      → fault_at (faults_for nets latches flips pulses) i
      ≡ Pulse (net ((i - stuck_count nets - flip_count latches flips) / length pulses))
      (slice_index pulses ((i - stuck_count nets - flip_count latches flips) % length pulses))
  pulse_at i le lt =
      let j = i - stuck_count nets - flip_count latches flips in
      let same : i - (stuck_count nets + flip_count latches flips) ≡ j = omega arith in
      let within : j < nets * length pulses = omega arith in
      ap (λ faults. fault_at faults i) parts
      ∙ get_or-append_right (stuck ++ flipped) pulsed (stuck_count nets + flip_count latches flips) i (Stuck (net 0) false) length_first le
      ∙ ap (λ k. get_or pulsed k (Stuck (net 0) false)) same
      ∙ rows_number (pulses_of pulses) (length pulses) pulses_wide nets j (Stuck (net 0) false) within
      ∙ get_or-map (λ cycle. Pulse (net (j / length pulses)) cycle) pulses (j % length pulses) 0 (Stuck (net 0) false) (mod-lt j (some_wide nets j (length pulses) within))

-- the number that the program counts is the length of the list
pub counted : (c : Circuit) (flips pulses : List ℕ) (count nets : ℕ) (latches : List Latch)
    → count ≡ count_for nets (length latches) flips pulses → nets ≡ length c.drivers → latches ≡ c.latches → count ≡ length (faults_of c flips pulses)
counted c flips pulses count nets latches e n l =
    e ∙ ap₂ (λ nets latches. count_for nets latches flips pulses) n (ap length l) ∙ sym (length_faults (length c.drivers) (length c.latches) flips pulses)

-- the fault in the lane of a number is that of the number
pub lane_back : (i : ℕ) → fault_number (i / 64) (i % 64) ≡ i
lane_back i = grind arith
