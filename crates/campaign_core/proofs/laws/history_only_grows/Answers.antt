use Rattle.std.proofs.Common.{◌∙◌, sym, ap}
use Rattle.campaign_core.specs.Machines.{fresh, after_all}
use Rattle.campaign_core.proofs.Runs.{grows, after-append}
use Rattle.campaign_core.proofs.laws.history_only_grows.Goals as goal

pub returns : goal.returns
returns c limit es fs = let p = grows (after_all (fresh limit) es) fs in (p.0, p.1 ∙ sym (ap (λ m. m.history) (after-append (fresh limit) es fs)))
