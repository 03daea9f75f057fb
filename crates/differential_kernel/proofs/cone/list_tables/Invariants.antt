use Rattle.circuit.specs.Order.{net_at}
use Rattle.place_set.specs.Places.{has}
use Rattle.differential_kernel.specs.Places.{AreThose}
use Rattle.differential_kernel.proofs.cone.list_tables.Given as goal

abbrev pub invariant-loop-place : goal.invariant-loop-place
invariant-loop-place l = AreThose (λ place. has l.nets (net_at l.order place).0) l.place l.tables l.count
