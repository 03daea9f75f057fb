use Rattle.std.proofs.Common.{◌≡◌, map}
use Rattle.fm_base.specs.Lists.{below}
use Rattle.std.specs.Prelude.{true, false}
use Rattle.campaign_plan.specs.Weights.{weight}
use Rattle.campaign_plan.specs.Making.{analysis}
use Rattle.campaign_plan.specs.Shares.{AreShares}
use Rattle.campaign_plan.proofs.shares.weights.Given as goal

abbrev pub invariant-loop-i : goal.invariant-loop-i
invariant-loop-i l = record {
  weights : l.weights.items ≡ map (weight (analysis l.p)) (below l.i);
  permanent : AreShares (analysis l.p) true l.i l.permanent;
  transient : AreShares (analysis l.p) false l.i l.transient;
}
