use Rattle.std.proofs.Common.{◌∙◌, sym, arith}
use Rattle.fm_base.specs.Planes.{bit}
use Rattle.fm_base.proofs.Tests.{or_false}
use Rattle.counterexamples.proofs.look.look.Goals as goal

pub returns-then-cycle-posed : goal.returns-then-cycle-posed
returns-then-cycle-posed c = record {
  differs = λ vectors k after size lane. c.differing-differs.ensures vectors c.args.cycle k after size lane;
  before = λ k e. e;
  raised = λ from. absurd (omega (arith, from));
}

pub returns : goal.returns
returns c = record {
  differs = λ vectors k after size lane. c.differing-differs.ensures vectors c.args.cycle k after size lane;
  before = λ k e. (or_false (bit c.args.raised k) (bit c.raising-alarms.result k) (sym (c.either_lanes.ensures k) ∙ e)).0;
  raised = λ from vectors k after size lane e. sym (c.raising-alarms.ensures vectors c.args.cycle k after size lane)
      ∙ (or_false (bit c.args.raised k) (bit c.raising-alarms.result k) (sym (c.either_lanes.ensures k) ∙ e)).1;
}
