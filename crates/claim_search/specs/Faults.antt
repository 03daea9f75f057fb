-- What may be answered to a fault.
use Rattle.alarm_points.specs.PointsFile.{observed}
use Rattle.circuit.specs.Circuit.{Circuit}
use Rattle.circuit.specs.declared.parts.Fault.{Fault}
use Rattle.coverage_claim.specs.Claim.{Claim}
use Rattle.coverage_claim.specs.Region.{region_of}
use Rattle.reach.specs.Paths.{CanChangeSome}
use Rattle.claim_search.specs.Answer.{IsAnswer}
use Rattle.claim_search.specs.Question.{with_region}
use Rattle.claim_search.specs.declared.faults.FaultAnswer.{FaultAnswer}
use Rattle.claim_search.specs.declared.faults.FaultAnswer.TheVariants.{NoPath, OfClaim}

-- THE ANSWER TO A FAULT: exactly where no path leads to an observation net it is that; else it is the answer to the claim with the fault's region
abbrev pub IsFaultAnswer : Circuit → Claim → Fault → FaultAnswer → Type 0
IsFaultAnswer c claim fault NoPath = ¬ (CanChangeSome c fault (observed claim.points))
IsFaultAnswer c claim fault (OfClaim answer) = CanChangeSome c fault (observed claim.points) × IsAnswer (with_region claim (region_of c fault)) answer
