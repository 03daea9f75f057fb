use Rattle.region_search.proofs.Cutting.{cuts_keep}
use Rattle.region_search.proofs.law.cuts_keep_search.Goals as goal

pub returns : goal.returns
returns c = cuts_keep
