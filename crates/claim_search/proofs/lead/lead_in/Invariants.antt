use Rattle.std.proofs.Common.{◌≡◌}
use Rattle.coverage_claim.specs.Claim.{Claim}
use Rattle.region_search.specs.Going.{IsFor}
use Rattle.claim_search.specs.LeadIn.{IsKnownTo}
use Rattle.claim_search.specs.Question.{IsAsked}
use Rattle.claim_search.proofs.lead.lead_in.Given as goal

abbrev pub invariant-loop-cycle : goal.invariant-loop-cycle
invariant-loop-cycle l = record {
  fits : IsFor l.searched.watchers.now l.search;
  frames : l.search.sets.frames ≡ 1;
  known : (claim : Claim) → IsAsked l.searched.netlist.now l.question claim → IsKnownTo claim l.cycle l.starts l.differs;
}
