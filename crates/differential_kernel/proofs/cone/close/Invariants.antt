use Rattle.std.proofs.Common.{◌≡◌}
use Rattle.differential_kernel.specs.Cone.{IsClosedBut}
use Rattle.differential_kernel.proofs.cone.close.Given as goal

abbrev pub invariant-loop : goal.invariant-loop
invariant-loop l = record {
  nets : l.nets.bound ≡ l.initial.nets.bound;
  left : l.left.bound ≡ l.initial.left.bound;
  closed : IsClosedBut l.cycle.fanout.now l.left l.nets;
}
