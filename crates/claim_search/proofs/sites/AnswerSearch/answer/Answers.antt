use Rattle.std.proofs.Common.{ap, sym, subst, ◌∙◌}
use Rattle.claim_search.specs.Forced.{AreForced}
use Rattle.claim_search.specs.Sites.{site_at}
use Rattle.claim_search.proofs.Forcing.{forces_at}
use Rattle.claim_search.proofs.Marking.{asked_of, written}
use Rattle.claim_search.proofs.sites.AnswerSearch.answer.Goals as goal

pub returns-clause-answer : goal.returns-clause-answer
returns-clause-answer c = λ claim posed is_at.
    c.answer_by_cases-answer.ensures.answer claim
    (asked_of c.args.nets.now c.args.site c.deref_mut.result.now c.mark.new.sites c.mark.ensures.there c.mark.ensures.elsewhere c.args.searched.now.netlist.now _ claim posed is_at
    (c.deref.ensures.value ∙ written c.mark.new.sites _ c.args.self.now.sites.len (c.mark.auto.sites ∙ c.deref_mut.ensures.len)) (λ n. ap (λ sites. site_at sites n) c.deref_mut.ensures.value ∙ c.requires.ready.intact n))
    (forces_at c.args.searched.now.netlist.now c.args.posed.now c.args.nets.now c.args.site c.deref-2.result.now c.forced_for-forced.result.now c.forced_for-forced.ensures
    (subst (AreForced c.args.searched.now.netlist.now c.args.posed.now) (sym c.deref-2.ensures.value) c.requires.ready.forced) claim posed is_at)
