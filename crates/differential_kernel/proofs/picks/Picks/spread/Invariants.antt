use Rattle.std.proofs.Common.{◌≡◌, ◌<◌, ◌+◌, ◌*◌, ℕ}
use Rattle.fm_base.specs.Planes.{bit}
use Rattle.differential_kernel.specs.Picked.{bit_at_place, place_in}
use Rattle.differential_kernel.proofs.picks.Picks.spread.Given as goal

-- the lanes so far have their bits
abbrev pub invariant-loop-lane : goal.invariant-loop-lane
invariant-loop-lane l = (k : ℕ) → k < l.lane → bit l.plane k ≡ bit_at_place l.bits (place_in l.self (l.word * 64 + k))
