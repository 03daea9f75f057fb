use Rattle.std.proofs.Common.{◌≡◌, ◌<◌, ℕ, false}
use Rattle.place_set.specs.Places.{has}
use Rattle.differential_kernel.specs.Cone.{IsUnread}
use Rattle.differential_kernel.proofs.cone.find_reads.Given as goal

abbrev pub invariant-loop-n : goal.invariant-loop-n
invariant-loop-n l = record {
  bound : l.set.bound ≡ l.initial.set.bound;
  each : (i : ℕ) → i < l.n → has l.set i ≡ false → IsUnread l.cycle.fanout.now l.nets i;
}
