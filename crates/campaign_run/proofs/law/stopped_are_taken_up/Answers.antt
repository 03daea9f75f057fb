use Rattle.campaign_run.proofs.GoingOn.{taken_up}
use Rattle.campaign_run.proofs.law.stopped_are_taken_up.Goals as goal

pub returns : goal.returns
returns c = taken_up c.prefixes_keep_whole_rows.ensures
