use Rattle.testbench.proofs.LoadIsKept.{load_kept}
use Rattle.classifier.proofs.followed.DifferentialLanesFollowed.drop_lanes.Goals as goal

pub returns-clause-place : goal.returns-clause-place
returns-clause-place g c = record {
  load = load_kept c.args.self.now c.drop_lanes.new.self c.drop_lanes.ensures.keeps;
  cycle = c.drop_lanes.ensures.cycle;
  after = c.drop_lanes.ensures.beside;
}
