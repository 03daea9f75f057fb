use Rattle.campaign_workers.proofs.fan_out.campaign.Goals as goal

pub campaign_of_several-requires-clause-admitted : goal.campaign_of_several-requires-clause-admitted
campaign_of_several-requires-clause-admitted g c κs within = c.requires.admitted c.if-workers-eq1.false
