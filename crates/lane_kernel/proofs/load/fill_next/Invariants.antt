use Rattle.std.proofs.Common.{◌≡◌, ◌<◌, ◌≤◌, ◌+◌, ℕ, false, length, get_or}
use Rattle.circuit.specs.Value.{bit_at}
use Rattle.lane_words.specs.Gates.{gate_at}
use Rattle.lane_kernel.proofs.load.fill_next.Given as goal

-- the places from some place on are filled, and `pause` is the first pause of them
abbrev pub invariant-loop-back : goal.invariant-loop-back
invariant-loop-back l =
    (length l.gates ≤ l.pause + l.back)
    × (l.pause ≤ length l.gates)
    × ((j : ℕ) → length l.gates ≤ j + l.back → j < l.pause → bit_at l.marks (gate_at l.gates j).to ≡ false)
    × ((from : ℕ) → length l.gates ≤ from + l.back → from < length l.gates → (from ≤ get_or l.next from 0) × (get_or l.next from 0 ≤ length l.gates))
    × ((from j : ℕ) → length l.gates ≤ from + l.back → from < length l.gates → from ≤ j → j < get_or l.next from 0
    → bit_at l.marks (gate_at l.gates j).to ≡ false)
    × ((j : ℕ) → length l.gates ≤ j + l.back → j < l.pause → (gate_at l.gates j).op < 16)
    × ((from j : ℕ) → length l.gates ≤ from + l.back → from < length l.gates → from ≤ j → j < get_or l.next from 0
    → (gate_at l.gates j).op < 16)
