use Rattle.campaign_plan.specs.Making.{analysis}
use Rattle.campaign_plan.proofs.PartNumbers.{HasParts}
use Rattle.campaign_plan.proofs.numbers.parts_of_nets.Given as goal

abbrev pub invariant-loop-n : goal.invariant-loop-n
invariant-loop-n l = HasParts (analysis l.p) l.n l.parts
