use Rattle.differential_kernel.proofs.Cones.{spreads_none, spreads_on}
use Rattle.differential_kernel.proofs.cone.put_flips.Goals as goal

pub loop-fault-init : goal.loop-fault-init
loop-fault-init c = spreads_none c.args.nets.now c.args.left.now

pub loop-fault-preserved : goal.loop-fault-preserved
loop-fault-preserved c =
    spreads_on c.args.nets.now c.args.left.now c.loop-fault.nets c.loop-fault.left c.put_flip.new.nets c.put_flip.new.left c.loop-fault.invariant c.put_flip.ensures
