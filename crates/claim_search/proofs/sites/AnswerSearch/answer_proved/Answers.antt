use Rattle.std.proofs.Common.{ap, ◌∙◌}
use Rattle.coverage_claim.specs.declared.parts.Site.TheVariants.{Free}
use Rattle.claim_search.specs.Sites.{site_at}
use Rattle.claim_search.proofs.Marking.{asked_of, written}
use Rattle.claim_search.proofs.sites.AnswerSearch.answer_proved.Goals as goal

pub returns-clause-answer : goal.returns-clause-answer
returns-clause-answer c = λ claim posed is_at proved.
    c.answer_if_proved.ensures claim c.lead_in-led.new.starts
    (c.lead_in-led.ensures.led claim
    (asked_of c.args.nets.now Free c.deref_mut.result.now c.mark.new.sites c.mark.ensures.there c.mark.ensures.elsewhere c.args.searched.now.netlist.now _ claim posed is_at
    (c.deref.ensures.value ∙ written c.mark.new.sites _ c.args.self.now.sites.len (c.mark.auto.sites ∙ c.deref_mut.ensures.len)) (λ n. ap (λ sites. site_at sites n) c.deref_mut.ensures.value ∙ c.requires.ready.intact n)))
    proved
