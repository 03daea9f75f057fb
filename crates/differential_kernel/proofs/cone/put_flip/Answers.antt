use Rattle.std.proofs.Common.{List, false, length, get_or, ap, arith}
use Rattle.circuit.specs.declared.parts.Latch.{Latch}
use Rattle.lane_words.proofs.Latches.{latches_inside}
use Rattle.differential_kernel.proofs.cone.put_flip.Goals as goal

pub put_net-requires-clause-net : goal.put_net-requires-clause-net
put_net-requires-clause-net c =
    let l = c.in-Some-Flip.l in
    let none : Latch = record { from = record { 0 = 0 }; to = record { 0 = 0 }; start = false } in
    let found = c.in-Some.ensures.lookup.3 in
    let inside = latches_inside c.args.netlist.now c.latches.ensures.sound l none (omega (arith, found.0, ap (λ (ls : List Latch). length ls) c.latches.ensures.value)) in
    omega (arith, ap (λ (latch : Latch). latch.to.0) (found.1 none), ap (λ (ls : List Latch). (get_or ls l none).to.0) c.latches.ensures.value, inside, c.requires.nets)
