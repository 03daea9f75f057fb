use Rattle.campaign_run.proofs.KeptPrefix.{keeps_whole_rows}
use Rattle.campaign_run.proofs.law.prefixes_keep_whole_rows.Goals as goal

pub returns : goal.returns
returns c = keeps_whole_rows c.written_reads_back.ensures
