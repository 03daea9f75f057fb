use Rattle.differential_kernel.specs.Cone.{Spreads}
use Rattle.differential_kernel.proofs.cone.put_all_flips.Given as goal

abbrev pub invariant-loop-faults : goal.invariant-loop-faults
invariant-loop-faults l = Spreads l.initial.nets l.initial.left l.nets l.left
