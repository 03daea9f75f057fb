use Rattle.std.proofs.Common.{◌+◌, ◌<◌, ap, arith, length, subst, sym}
use Rattle.circuit.specs.Circuit.{Circuit}
use Rattle.always.proofs.Asking.{AreParts, no_parts, parts_more, stuck_listed}
use Rattle.always.proofs.asked.net_parts.Goals as goal

pub loop-net-init : goal.loop-net-init
loop-net-init c = subst (AreParts c.args.plan.now 0) (sym c.in_ok-parts.ensures.items) (no_parts c.args.plan.now)

pub part_of_fault-requires : goal.part_of_fault-requires
part_of_fault-requires c =
    stuck_listed c.args.plan.now c.loop-net.net (omega (arith, ap (λ (circuit : Circuit). length circuit.drivers) c.net.ensures.value))

pub loop-net-preserved : goal.loop-net-preserved
loop-net-preserved c =
    let p = c.args.plan.now in
    let within : c.loop-net.net < length p.circuit.drivers = omega (arith, ap (λ (circuit : Circuit). length circuit.drivers) c.net.ensures.value) in
    subst (AreParts p (c.loop-net.net + 1)) (sym c.in_ok-push.ensures.items)
    (parts_more p c.loop-net.net c.part_of_fault.result c.loop-net.parts.items c.loop-net.invariant within c.part_of_fault.ensures.value c.part_of_fault.ensures.within)
