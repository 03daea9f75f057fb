use Rattle.campaign_laws.proofs.Naming.{add_up}
use Rattle.campaign_laws.proofs.report.named_weights_add_up.Goals as goal

pub returns : goal.returns
returns c = add_up c.faults_are_alone.ensures.sums
