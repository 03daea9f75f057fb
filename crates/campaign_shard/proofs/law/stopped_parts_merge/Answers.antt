use Rattle.campaign_shard.proofs.Merging.{parts_merge}
use Rattle.campaign_shard.proofs.law.stopped_parts_merge.Goals as goal

pub returns : goal.returns
returns c = parts_merge c.stopped_are_taken_up.ensures c.merges_are_lawful.ensures
