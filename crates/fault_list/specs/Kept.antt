-- What each fault list keeps: it is short, so that all numbers of faults fit 32 bits.
use Rattle.std.specs.Prelude.{ℕ, ◌+◌, ◌*◌, ◌^◌, ◌≤◌, List, length}

-- the greatest number of faults
abbrev pub most_faults : ℕ
most_faults = 2 ^ 20

-- the greatest number of cycles of flips
abbrev pub most_flips : ℕ
most_flips = 65536

-- the number of stuck-at faults, of flips, and of all faults
abbrev pub stuck_count : ℕ → ℕ
stuck_count nets = nets * 2

abbrev pub flip_count : ℕ → List ℕ → ℕ
flip_count latches flips = latches * length flips

abbrev pub count_for : (nets latches : ℕ) → (flips pulses : List ℕ) → ℕ
count_for nets latches flips pulses = stuck_count nets + flip_count latches flips + nets * length pulses

pub record IsShort (nets latches : ℕ) (flips pulses : List ℕ) : Type 0 where
  pub nets_few : nets ≤ 2 ^ 18
  pub latches_few : latches ≤ 2 ^ 18
  pub flips_few : length flips ≤ most_flips
  pub pulses_few : length pulses ≤ 4
  pub few : count_for nets latches flips pulses ≤ most_faults
