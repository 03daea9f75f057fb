use Rattle.std.proofs.Common.{ap, sym, length, arith}
use Rattle.wave_dump.specs.Steps.{is_fault_named, flips_of}
use Rattle.wave_dump.proofs.Naming.{found_here, none_more, none_yet}
use Rattle.wave_dump.proofs.named.find_flip.Goals as goal

pub loop-latch-init : goal.loop-latch-init
loop-latch-init c = none_yet (is_fault_named c.args.net.now c.args.name.now) (flips_of c.args.cycles.now)

pub loop-latch-preserved : goal.loop-latch-preserved
loop-latch-preserved c =
    none_more (is_fault_named c.args.net.now c.args.name.now) (flips_of c.args.cycles.now) c.loop-latch.latch c.loop-latch.invariant (sym c.in_default.ensures)

pub returns-in-Some : goal.returns-in-Some
returns-in-Some c =
    sym (found_here (is_fault_named c.args.net.now c.args.name.now) (flips_of c.args.cycles.now) (length c.args.net.now.latches) c.loop-latch.latch c.in-Some.fault
    (omega (arith, c.loop-latch-test.true, ap length c.latches.ensures.value)) c.loop-latch.invariant (sym c.in-Some.ensures))
