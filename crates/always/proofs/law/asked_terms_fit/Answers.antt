use Rattle.always.proofs.Asking.{fits}
use Rattle.always.proofs.law.asked_terms_fit.Goals as goal

pub returns : goal.returns
returns c = fits
