-- Counts of faults that rise.
use Rattle.std.proofs.Common.{ℕ, ◌<◌, ◌≤◌, arith}
use Rattle.fm_shelf.specs.Shelf.{CountRose}

-- a count that rose in a call rose in a longer one
pub rose_from : (a b c : ℕ) → a ≤ b → CountRose b c → CountRose a c
rose_from a b c le rose = λ below. let r : b < c = rose (omega (arith, below)) in omega (arith, le, r)
