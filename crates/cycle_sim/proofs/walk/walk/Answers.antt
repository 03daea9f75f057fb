use Rattle.std.proofs.Common.{◌≡◌, ◌+◌, length, take, set, subst, sym, ◌∙◌, arith}
use Rattle.std.proofs.lemmas.List.{take_all}
use Rattle.circuit.specs.Value.{cycle_of}
use Rattle.circuit.specs.Order.{net_at}
use Rattle.circuit.proofs.Walks.{Holds, holds_first, holds_step, holds_end}
use Rattle.cycle_sim.proofs.walk.walk.Goals as goal

pub loop-net-init : goal.loop-net-init
loop-net-init c =
    holds_first (cycle_of c.args.netlist.now c.args.faults.now c.args.cycle c.args.state.now c.args.inputs.now) c.start.new.values
    (c.start.auto.values ∙ c.requires.nets) c.start.ensures

pub loop-net-preserved : goal.loop-net-preserved
loop-net-preserved c =
    subst
    (λ v. Holds (cycle_of c.args.netlist.now c.args.faults.now c.args.cycle c.args.state.now c.args.inputs.now)
    (set c.loop-net.values (net_at c.args.order.now c.loop-net.net-index).0 v) (take (c.loop-net.net-index + 1) c.args.order.now) (c.loop-net.net-index + 1))
    (sym c.value_under.ensures)
    (holds_step (cycle_of c.args.netlist.now c.args.faults.now c.args.cycle c.args.state.now c.args.inputs.now) c.loop-net.values c.args.order.now c.loop-net.net-index
    c.value_of_driver-own.result c.value_of_driver-own.ensures.sound c.requires.order (omega arith) c.value_of_driver-own.ensures.value c.loop-net.invariant)

pub returns : goal.returns
returns c =
    let y = cycle_of c.args.netlist.now c.args.faults.now c.args.cycle c.args.state.now c.args.inputs.now in
    let all : c.loop-net.net-index ≡ length c.args.order.now = omega arith in
    holds_end y c.loop-net.values c.args.order.now c.requires.order
    (subst (λ xs. Holds y c.loop-net.values xs (length c.args.order.now)) (take_all (length c.args.order.now) c.args.order.now (omega arith))
    (subst (λ n. Holds y c.loop-net.values (take n c.args.order.now) n) all c.loop-net.invariant))
