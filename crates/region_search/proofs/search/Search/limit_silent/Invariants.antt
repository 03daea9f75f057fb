use Rattle.circuit.specs.Order.{net_at}
use Rattle.coverage_claim.specs.Stretch.{Stretch}
use Rattle.region_search.specs.Begin.{BeginsSo}
use Rattle.region_search.specs.BeginSteps.{AreFewer, IsAsLong, IsBegun, IsDone, is_quiet}
use Rattle.region_search.specs.Going.{sets_of}
use Rattle.region_search.proofs.search.Search.limit_silent.Given as goal

abbrev pub invariant-loop-net : goal.invariant-loop-net
invariant-loop-net l = record {
  size : IsAsLong l.initial.self l.self;
  fewer : AreFewer (sets_of l.initial.self.sets) (sets_of l.self.sets);
  done : IsDone l.frame (λ j. (net_at l.beginning.silent.now j).0) (λ j. is_quiet l.frame l.beginning.until) l.net-index (sets_of l.self.sets);
  begun : (s : Stretch) → BeginsSo l.netlist s l.initial.self.sets.frames l.beginning → IsBegun s l.initial.self → IsBegun s l.self;
}
