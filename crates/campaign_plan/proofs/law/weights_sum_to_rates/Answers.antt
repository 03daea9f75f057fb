use Rattle.campaign_plan.proofs.Weighing.{weights_sum_to_rate}
use Rattle.campaign_plan.proofs.law.weights_sum_to_rates.Goals as goal

pub returns : goal.returns
returns c = weights_sum_to_rate
