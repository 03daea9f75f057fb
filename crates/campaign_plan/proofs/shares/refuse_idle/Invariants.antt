use Rattle.std.proofs.Common.{◌≡◌, []}
use Rattle.std.specs.Prelude.{filter_map}
use Rattle.fm_base.specs.Lists.{below}
use Rattle.campaign_plan.specs.Making.{analysis}
use Rattle.campaign_plan.specs.Steps.{idle_rate_of}
use Rattle.campaign_plan.proofs.shares.refuse_idle.Given as goal

abbrev pub invariant-loop-k : goal.invariant-loop-k
invariant-loop-k l = filter_map (idle_rate_of (analysis l.p)) (below l.k) ≡ []
