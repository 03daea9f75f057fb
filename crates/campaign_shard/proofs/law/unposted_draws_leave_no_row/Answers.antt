use Rattle.campaign_shard.proofs.Posting.{no_row}
use Rattle.campaign_shard.proofs.law.unposted_draws_leave_no_row.Goals as goal

pub returns : goal.returns
returns c = no_row
