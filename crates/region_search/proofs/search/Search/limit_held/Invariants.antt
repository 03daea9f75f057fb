use Rattle.coverage_claim.specs.Stretch.{Stretch}
use Rattle.region_search.specs.Begin.{BeginsSo}
use Rattle.region_search.specs.BeginSteps.{AreFewer, IsAsLong, IsBegun, IsDone, held_of, held_passes}
use Rattle.region_search.specs.Going.{sets_of}
use Rattle.region_search.proofs.search.Search.limit_held.Given as goal

abbrev pub invariant-loop-held : goal.invariant-loop-held
invariant-loop-held l = record {
  size : IsAsLong l.initial.self l.self;
  fewer : AreFewer (sets_of l.initial.self.sets) (sets_of l.self.sets);
  done : IsDone l.frame (λ j. (held_of l.beginning.held.now j).net.0) (held_passes l.beginning l.frame) l.held-index (sets_of l.self.sets);
  begun : (s : Stretch) → BeginsSo l.netlist s l.initial.self.sets.frames l.beginning → IsBegun s l.initial.self → IsBegun s l.self;
}
