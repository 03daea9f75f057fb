use Rattle.campaign_laws.proofs.Generated.{generated_are_planned}
use Rattle.campaign_laws.proofs.sample.generated_is_a_plan.Goals as goal

pub returns : goal.returns
returns c = generated_are_planned
