use Rattle.std.proofs.Common.{arith, ap}
use Rattle.campaign_core.specs.Machines.{once_below}
use Rattle.campaign_core.specs.Machines.{fresh}
use Rattle.campaign_core.proofs.Runs.{good_all, good_fresh}
use Rattle.campaign_core.proofs.laws.history_is_whole.Goals as goal

pub returns : goal.returns
returns c limit es ok all posted x =
    let h = good_all (fresh limit) es (good_fresh limit) ok in
    omega (arith, h.history x, posted x, h.claims x, ap (once_below x) all)
