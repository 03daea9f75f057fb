use Rattle.std.proofs.Common.{◌≡◌}
use Rattle.campaign_plan.proofs.Lanes.{sums_below}
use Rattle.campaign_plan.proofs.batch.own_sums.Given as goal

abbrev pub invariant-loop-lane : goal.invariant-loop-lane
invariant-loop-lane l = l.sums ≡ sums_below l.plan l.batch l.outcome l.lane
