use Rattle.differential_kernel.specs.Cone.{Spreads}
use Rattle.differential_kernel.proofs.cone.put_flips.Given as goal

abbrev pub invariant-loop-fault : goal.invariant-loop-fault
invariant-loop-fault l = Spreads l.initial.nets l.initial.left l.nets l.left
