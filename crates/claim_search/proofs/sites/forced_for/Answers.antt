use Rattle.std.proofs.Common.{inl, inr, refl}
use Rattle.claim_search.proofs.sites.forced_for.Goals as goal

pub returns-in-Free : goal.returns-in-Free
returns-in-Free c = inr (c.in-Free.is, refl)

pub returns-in-Intact : goal.returns-in-Intact
returns-in-Intact c = inl refl
