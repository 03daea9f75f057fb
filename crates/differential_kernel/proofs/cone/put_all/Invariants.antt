use Rattle.std.proofs.Common.{◌-◌}
use Rattle.differential_kernel.specs.Cone.{Spreads}
use Rattle.differential_kernel.proofs.cone.put_all.Given as goal

abbrev pub decreases-nets : goal.decreases-nets
decreases-nets l = l.set.bound - l.from

abbrev pub invariant-nets : goal.invariant-nets
invariant-nets l = Spreads l.initial.nets l.initial.left l.nets l.left
