use Rattle.std.proofs.Common.{sym}
use Rattle.circuit.specs.Order.{net_at}
use Rattle.place_set.specs.Places.{has}
use Rattle.differential_kernel.proofs.cone.list_tables.Goals as goal

pub loop-place-preserved : goal.loop-place-preserved
loop-place-preserved c = c.list_if-count.ensures (λ place. has c.args.nets.now (net_at c.args.order.now place).0) (sym c.has.ensures) c.loop-place.invariant
