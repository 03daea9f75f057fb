use Rattle.campaign_laws.proofs.Staying.{verdicts_stay}
use Rattle.campaign_laws.proofs.report.printed_verdicts_stay.Goals as goal

pub returns : goal.returns
returns c = verdicts_stay c.faults_are_alone.ensures.sums c.bounds_hold.ensures c.targets_stand.ensures.percentages c.targets_stand.ensures.limit
