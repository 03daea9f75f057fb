use Rattle.std.proofs.Common.{subst}
use Rattle.alarm_points.specs.declared.Points.{Points}
use Rattle.reading_planes.specs.Folded.{AreCyclesFor}
use Rattle.reading_planes.proofs.simulator.ReadingSimulator.new.Goals as goal

pub returns : goal.returns
returns c = record {
  draw = c.in_ok-draw.ensures.made;
  faults = c.in_ok-draw.ensures.count;
  paths = c.in_ok-paths.ensures;
  cycles = subst (λ (ps : Points). AreCyclesFor ps c.in_ok-cycles.cycles) c.points.ensures.points c.in_ok-cycles.ensures;
  word_planes = c.in_ok-planes.ensures.words;
  planes = c.in_ok-planes.ensures.fit;
}
