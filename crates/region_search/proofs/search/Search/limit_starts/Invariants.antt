use Rattle.coverage_claim.specs.Stretch.{Stretch}
use Rattle.pair_sets.specs.Choice.{set_at}
use Rattle.pair_sets.specs.Pairs.{has}
use Rattle.region_search.specs.Begin.{BeginsSo}
use Rattle.region_search.specs.BeginSteps.{AreFewer, IsAsLong, IsBegun, IsDone, latch_of}
use Rattle.region_search.specs.Going.{sets_of}
use Rattle.region_search.proofs.search.Search.limit_starts.Given as goal

abbrev pub invariant-loop-number : goal.invariant-loop-number
invariant-loop-number l = record {
  size : IsAsLong l.initial.self l.self;
  fewer : AreFewer (sets_of l.initial.self.sets) (sets_of l.self.sets);
  done : IsDone 0 (λ k. (latch_of l.netlist.latches k).to.0) (λ k. has (set_at l.beginning.starts.now k)) l.number (sets_of l.self.sets);
  begun : (s : Stretch) → BeginsSo l.netlist s l.initial.self.sets.frames l.beginning → IsBegun s l.initial.self → IsBegun s l.self;
}
