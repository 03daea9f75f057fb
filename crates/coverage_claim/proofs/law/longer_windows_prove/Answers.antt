use Rattle.coverage_claim.proofs.Windows.{longer_window}
use Rattle.coverage_claim.proofs.law.longer_windows_prove.Goals as goal

pub returns : goal.returns
returns c = longer_window
