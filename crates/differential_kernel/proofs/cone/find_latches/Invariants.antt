use Rattle.std.proofs.Common.{◌≡◌, ◌<◌, ℕ}
use Rattle.lane_words.specs.Gates.{latch_at}
use Rattle.place_set.specs.Places.{has}
use Rattle.differential_kernel.proofs.cone.find_latches.Given as goal

abbrev pub invariant-loop-l : goal.invariant-loop-l
invariant-loop-l l = record {
  bound : l.set.bound ≡ l.initial.set.bound;
  each : (i : ℕ) → i < l.l → has l.set i ≡ has l.nets (latch_at l.latches i).to.0;
}
