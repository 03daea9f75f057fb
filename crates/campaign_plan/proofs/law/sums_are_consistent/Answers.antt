use Rattle.campaign_plan.proofs.Small.{consistent_sums}
use Rattle.campaign_plan.proofs.law.sums_are_consistent.Goals as goal

pub returns : goal.returns
returns c = consistent_sums
