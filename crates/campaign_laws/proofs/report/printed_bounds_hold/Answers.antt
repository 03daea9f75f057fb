use Rattle.campaign_laws.proofs.Holding.{printed_bounds_hold as holds}
use Rattle.campaign_laws.proofs.report.printed_bounds_hold.Goals as goal

pub returns : goal.returns
returns c = holds c.bounds_hold.ensures
