use Rattle.std.proofs.Common.{◌<◌, ℕ}
use Rattle.coverage_claim.specs.Stretch.{Stretch}
use Rattle.region_search.specs.Begin.{BeginsSo}
use Rattle.region_search.specs.BeginSteps.{AreFewer, IsAsLong, IsBegun, IsFrameDone}
use Rattle.region_search.specs.Going.{sets_of}
use Rattle.region_search.proofs.search.Search.limit_frames.Given as goal

abbrev pub invariant-loop-frame : goal.invariant-loop-frame
invariant-loop-frame l = record {
  size : IsAsLong l.initial.self l.self;
  fewer : AreFewer (sets_of l.initial.self.sets) (sets_of l.self.sets);
  done : (i : ℕ) → i < l.frame → IsFrameDone l.netlist l.beginning i (sets_of l.self.sets);
  begun : (s : Stretch) → BeginsSo l.netlist s l.initial.self.sets.frames l.beginning → IsBegun s l.initial.self → IsBegun s l.self;
}
