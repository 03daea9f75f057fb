use Rattle.std.proofs.Common.{inl, inr, refl, subst}
use Rattle.coverage_claim.specs.Claim.{Claim}
use Rattle.claim_search.proofs.Contradicting.{bare_asked}
use Rattle.claim_search.proofs.Forcing.{bare_forced, none_forced}
use Rattle.claim_search.specs.Hypotheses.{bare}
use Rattle.claim_search.specs.LeadIn.{IsLedIn, LeavesStarts}
use Rattle.claim_search.specs.Question.{IsAsked, IsPosed}
use Rattle.claim_search.proofs.answer.forced_pairs.Goals as goal

pub returns-in-NoRuns-clause-forced : goal.returns-in-NoRuns-clause-forced
returns-in-NoRuns-clause-forced c = none_forced c.args.searched.now.netlist.now c.args.question.now.posed c.clear.new.pairs c.clear.ensures

pub returns-in-MayDiffer-clause-forced : goal.returns-in-MayDiffer-clause-forced
returns-in-MayDiffer-clause-forced c =
    let net = c.args.searched.now.netlist.now in
    let p = c.args.question.now.posed in
    let first = c.lead_in.new.starts in
    let asked : (claim : Claim) → IsPosed net p claim → IsAsked net c.args.question.now (bare claim) =
    λ claim posed. bare_asked net c.args.question.now claim c.args.question.now.sites.now posed refl c.requires.bare in
    let leaves : (claim : Claim) → IsPosed net p claim → LeavesStarts (bare claim) first = λ claim posed. (
    let led = c.lead_in.ensures.led (bare claim) (asked claim posed) in
    elim c.in-MayDiffer.is as (λ _. LeavesStarts (bare claim) first) [
      | inl is ↦ (subst (IsLedIn (bare claim) first) is led).0
      | inr is ↦ (subst (IsLedIn (bare claim) first) is led).0
    ]) in
    bare_forced net p first c.close-closed.new.starts leaves (λ claim posed allows simply. c.close-closed.ensures.least (bare claim) (asked claim posed) allows simply)
