use Rattle.std.proofs.Common.{◌≡◌, ◌<◌, ◌-◌, ℕ, false, length}
use Rattle.place_set.specs.Places.{has}
use Rattle.differential_kernel.specs.Forces.{AreIdleOff}
use Rattle.differential_kernel.proofs.note.forget_all.Given as goal

abbrev pub decreases-nets : goal.decreases-nets
decreases-nets g l = l.forces.named.bound - l.from

abbrev pub invariant-nets : goal.invariant-nets
invariant-nets g l = record {
  bound : l.forces.named.bound ≡ l.initial.forces.named.bound;
  each : length l.forces.by_net.items ≡ length l.initial.forces.by_net.items;
  zeros : l.forces.zeros ≡ l.initial.forces.zeros;
  ones : l.forces.ones ≡ l.initial.forces.ones;
  none : (n : ℕ) → n < l.from → has l.forces.named n ≡ false;
  idle : AreIdleOff g.W.Word.lanes g.W.Word.lane_bit l.forces.named l.forces.by_net.items;
}
