use Rattle.campaign_laws.proofs.Counting.{add_up}
use Rattle.campaign_laws.proofs.report.counts_add_up.Goals as goal

pub returns : goal.returns
returns c = add_up
