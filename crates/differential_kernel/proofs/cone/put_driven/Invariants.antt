use Rattle.std.proofs.Common.{◌≡◌, ◌<◌, ℕ, true, get_or}
use Rattle.place_set.specs.Places.{has}
use Rattle.differential_kernel.specs.Cone.{Spreads, driven_at}
use Rattle.differential_kernel.proofs.cone.put_driven.Given as goal

-- the nets of the places so far are in the cone
abbrev pub invariant-loop-place : goal.invariant-loop-place
invariant-loop-place l = record {
  spreads : Spreads l.initial.nets l.initial.left l.nets l.left;
  there : (i : ℕ) → i < l.place-index → has l.nets (driven_at l.cycle.fanout.now (get_or l.places i 0)) ≡ true;
}
