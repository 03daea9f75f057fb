use Rattle.std.proofs.Common.{◌≡◌, ◌<◌, ℕ, false, get_or}
use Rattle.place_set.specs.Places.{has}
use Rattle.differential_kernel.specs.Cone.{driven_at}
use Rattle.differential_kernel.proofs.cone.drives_one.Given as goal

-- none of the places so far
abbrev pub invariant-loop-place : goal.invariant-loop-place
invariant-loop-place l = (i : ℕ) → i < l.place-index → has l.nets (driven_at l.cycle.fanout.now (get_or l.places i 0)) ≡ false
