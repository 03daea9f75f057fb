use Rattle.std.proofs.Common.{◌≡◌, ℕ, ◌/◌, ◌<◌, length}
use Rattle.place_set.specs.Places.{value_in}
use Rattle.differential_kernel.proofs.shown.keep_row.Given as goal

-- the words so far are kept
abbrev pub invariant-loop-at : goal.invariant-loop-at
invariant-loop-at l = (length l.kept ≡ length l.initial.kept) × ((n : ℕ) → n / 64 < l.at → value_in l.kept n ≡ value_in l.row n)
