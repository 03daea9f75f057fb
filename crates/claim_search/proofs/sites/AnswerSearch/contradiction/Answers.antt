use Rattle.std.proofs.Common.{inl, inr, sym, subst, ◌∙◌}
use Rattle.circuit.specs.Sound.{IsNetlist}
use Rattle.claim_search.proofs.Contradicting.{bare_asked, none_is_so, some_are_so}
use Rattle.claim_search.proofs.Marking.{written}
use Rattle.claim_search.specs.Hypotheses.{bare, nowhere}
use Rattle.claim_search.specs.LeadIn.{IsLedIn, LeavesStarts}
use Rattle.claim_search.proofs.sites.AnswerSearch.contradiction.Goals as goal

pub returns-in-NoRuns-clause-answer : goal.returns-in-NoRuns-clause-answer
returns-in-NoRuns-clause-answer c = λ claim posed. (
  nowhere,
  subst (IsLedIn (bare claim) c.lead_in.new.starts) c.in-NoRuns.is
      (c.lead_in.ensures.led (bare claim) (bare_asked c.args.searched.now.netlist.now _ claim _ posed c.deref.ensures.value c.requires.ready.intact)),
)

pub returns-then-self-clause-answer : goal.returns-then-self-clause-answer
returns-then-self-clause-answer c = λ claim posed.
    let net = c.args.searched.now.netlist.now in
    let sound = subst IsNetlist c.requires.searched.netlist c.requires.searched.sound in
    let led = c.lead_in.ensures.led (bare claim) (bare_asked net _ claim _ posed c.deref.ensures.value c.requires.ready.intact) in
    let first : LeavesStarts (bare claim) c.lead_in.new.starts = elim c.in-MayDiffer.is [
      | inl is ↦ (subst (IsLedIn (bare claim) c.lead_in.new.starts) is led).0
      | inr is ↦ (subst (IsLedIn (bare claim) c.lead_in.new.starts) is led).0
    ] in
    let leaves = subst (LeavesStarts (bare claim)) (sym (c.deref-2.ensures.value ∙ written c.lead_in.new.starts _ c.args.self.now.starts.len (c.lead_in.auto.starts ∙ c.deref_mut.ensures.len))) first in
    let goes = c.begin.ensures.goes_on (bare claim) (bare_asked net _ claim _ posed c.deref.ensures.value c.requires.ready.intact) in
    none_is_so claim net posed.circuit sound c.deref-2.result.now leaves _ goes.going.search.holds (goes.going.noted.none c.if-self.true)

pub returns-clause-answer : goal.returns-clause-answer
returns-clause-answer c = λ claim posed.
    let net = c.args.searched.now.netlist.now in
    let sound = subst IsNetlist c.requires.searched.netlist c.requires.searched.sound in
    let led = c.lead_in.ensures.led (bare claim) (bare_asked net _ claim _ posed c.deref.ensures.value c.requires.ready.intact) in
    let first : LeavesStarts (bare claim) c.lead_in.new.starts = elim c.in-MayDiffer.is [
      | inl is ↦ (subst (IsLedIn (bare claim) c.lead_in.new.starts) is led).0
      | inr is ↦ (subst (IsLedIn (bare claim) c.lead_in.new.starts) is led).0
    ] in
    let leaves = subst (LeavesStarts (bare claim)) (sym (c.deref-2.ensures.value ∙ written c.lead_in.new.starts _ c.args.self.now.starts.len (c.lead_in.auto.starts ∙ c.deref_mut.ensures.len))) first in
    let asked = bare_asked net _ claim _ posed c.deref.ensures.value c.requires.ready.intact in
    let goes = c.begin.ensures.goes_on (bare claim) asked in
    some_are_so claim net posed.circuit sound c.deref-2.result.now leaves _ (c.begin.ensures.settled c.if-self.false (bare claim) asked) (goes.going.noted.some c.if-self.false)
