use Rattle.differential_kernel.proofs.Cones.{spreads_none, spreads_on}
use Rattle.differential_kernel.proofs.cone.put_all.Goals as goal

pub nets-init : goal.nets-init
nets-init c = spreads_none c.args.nets.now c.args.left.now

pub nets-preserved : goal.nets-preserved
nets-preserved c =
    spreads_on c.args.nets.now c.args.left.now c.nets.nets c.nets.left c.put_net.new.nets c.put_net.new.left c.nets.invariant c.put_net.ensures.spreads
