use Rattle.std.proofs.Common.{sym, length, arith}
use Rattle.wave_dump.specs.Steps.{is_fault_named, stuck_faults}
use Rattle.wave_dump.proofs.Naming.{found_here, none_more, none_yet}
use Rattle.wave_dump.proofs.named.find_stuck.Goals as goal

pub loop-n-init : goal.loop-n-init
loop-n-init c = none_yet (is_fault_named c.args.net.now c.args.name.now) (stuck_faults)

pub loop-n-preserved : goal.loop-n-preserved
loop-n-preserved c =
    none_more (is_fault_named c.args.net.now c.args.name.now) (stuck_faults) c.loop-n.n c.loop-n.invariant (sym c.in_default.ensures)

pub returns-in-Some-clause-value : goal.returns-in-Some-clause-value
returns-in-Some-clause-value c =
    sym (found_here (is_fault_named c.args.net.now c.args.name.now) (stuck_faults) (length c.args.net.now.drivers) c.loop-n.n c.in-Some.fault
    (omega (arith, c.loop-n-test.true, c.nets-n-end.ensures.count)) c.loop-n.invariant (sym c.in-Some.ensures))
