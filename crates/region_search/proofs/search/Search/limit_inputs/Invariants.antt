use Rattle.circuit.specs.Order.{net_at}
use Rattle.coverage_claim.specs.Stretch.{Stretch}
use Rattle.region_search.specs.Begin.{BeginsSo}
use Rattle.region_search.specs.BeginSteps.{AreFewer, IsAsLong, IsBegun, IsDone, input_passes}
use Rattle.region_search.specs.Going.{sets_of}
use Rattle.region_search.proofs.search.Search.limit_inputs.Given as goal

abbrev pub invariant-loop-net : goal.invariant-loop-net
invariant-loop-net l = record {
  size : IsAsLong l.initial.self l.self;
  fewer : AreFewer (sets_of l.initial.self.sets) (sets_of l.self.sets);
  done : IsDone l.frame (λ k. (net_at l.netlist.inputs k).0) (input_passes l.netlist l.beginning) l.net-index (sets_of l.self.sets);
  begun : (s : Stretch) → BeginsSo l.netlist s l.initial.self.sets.frames l.beginning → IsBegun s l.initial.self → IsBegun s l.self;
}
