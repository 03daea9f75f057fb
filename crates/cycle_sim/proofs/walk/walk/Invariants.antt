use Rattle.std.proofs.Common.{take}
use Rattle.circuit.proofs.Walks.{Holds}
use Rattle.circuit.specs.Value.{cycle_of}
use Rattle.cycle_sim.proofs.walk.walk.Given as goal

abbrev pub invariant-loop-net : goal.invariant-loop-net
invariant-loop-net l = Holds (cycle_of l.netlist l.faults l.cycle l.state l.inputs) l.values (take l.net-index l.order) l.net-index
