use Rattle.std.proofs.Common.{◌+◌, ◌*◌, ◌-◌, length}
use Rattle.coverage_claim.specs.Claim.{Claim}
use Rattle.coverage_claim.specs.Largest.{IsProvedSimply}
use Rattle.region_search.specs.Work.{pairs_left}
use Rattle.claim_search.specs.Question.{IsAsked}
use Rattle.claim_search.specs.Window.{Allows, AreKept, IsOver}
use Rattle.claim_search.proofs.window.WindowSearch.close.Given as goal

abbrev pub invariant-looks : goal.invariant-looks
invariant-looks l = record {
  over : IsOver l.searched.watchers.now (l.question.posed.window + l.question.posed.ahead + 1) l.self;
  kept : AreKept l.initial.starts l.starts;
  least : (claim : Claim) → IsAsked l.searched.netlist.now l.question claim → Allows claim l.initial.starts → IsProvedSimply claim → Allows claim l.starts;
}

abbrev pub decreases-looks : goal.decreases-looks
decreases-looks l = 4 * length l.starts - pairs_left l.starts
