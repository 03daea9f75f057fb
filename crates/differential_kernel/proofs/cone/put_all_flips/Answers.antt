use Rattle.differential_kernel.proofs.Cones.{spreads_none, spreads_on}
use Rattle.differential_kernel.proofs.cone.put_all_flips.Goals as goal

pub loop-faults-init : goal.loop-faults-init
loop-faults-init c = spreads_none c.args.nets.now c.args.left.now

pub loop-faults-preserved : goal.loop-faults-preserved
loop-faults-preserved c =
    spreads_on c.args.nets.now c.args.left.now c.loop-faults.nets c.loop-faults.left c.put_flips.new.nets c.put_flips.new.left c.loop-faults.invariant c.put_flips.ensures
