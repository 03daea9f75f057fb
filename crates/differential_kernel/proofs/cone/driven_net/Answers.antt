use Rattle.std.proofs.Common.{◌-◌, List, false, length, get_or, ap, arith}
use Rattle.circuit.specs.declared.parts.Latch.{Latch}
use Rattle.lane_words.proofs.Latches.{latches_inside}
use Rattle.differential_kernel.proofs.cone.driven_net.Goals as goal

pub returns-else-place-cycle-clause-net : goal.returns-else-place-cycle-clause-net
returns-else-place-cycle-clause-net c =
    let circuit = c.args.cycle.now.netlist.now in
    let l = c.args.place - length c.args.cycle.now.order.now in
    let none : Latch = record { from = record { 0 = 0 }; to = record { 0 = 0 }; start = false } in
    let inside = latches_inside circuit c.latches.ensures.sound l none (omega (arith, c.requires.place, c.if-place-cycle.false)) in
    omega (arith, ap (λ (ls : List Latch). (get_or ls l none).to.0) c.latches.ensures.value, inside)
