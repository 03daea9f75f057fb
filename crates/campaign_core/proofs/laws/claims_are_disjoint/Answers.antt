use Rattle.std.proofs.Common.{arith}
use Rattle.campaign_core.specs.Machines.{fresh}
use Rattle.campaign_core.proofs.Runs.{good_all, good_fresh, within}
use Rattle.campaign_core.proofs.laws.claims_are_disjoint.Goals as goal

pub returns-clause-claims : goal.returns-clause-claims
returns-clause-claims c limit es ok x = (good_all (fresh limit) es (good_fresh limit) ok).claims x

pub returns-clause-limit : goal.returns-clause-limit
returns-clause-limit c limit es = within (fresh limit) es (omega arith)
