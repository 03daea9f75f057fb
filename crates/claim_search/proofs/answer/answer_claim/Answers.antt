use Rattle.std.proofs.Common.{sym, subst, ◌∙◌}
use Rattle.circuit.specs.Circuit.{Circuit}
use Rattle.circuit.specs.Sound.{IsNetlist}
use Rattle.claim_search.proofs.Answering.{never, proved}
use Rattle.claim_search.proofs.Forcing.{joined_allowed, joined_kept, kept_on}
use Rattle.claim_search.specs.Answer.{IsAnswer, IsProvedWithSome}
use Rattle.claim_search.specs.LeadIn.{LeavesStarts}
use Rattle.claim_search.specs.Question.{IsAsked, with_pairs}
use Rattle.claim_search.specs.Window.{WindowsGoOn, starts_of}
use Rattle.claim_search.proofs.answer.answer_claim.Goals as goal
use Rattle.claim_search.proofs.answer.answer_claim.Goals.{in-Agrees, in-MayDiffer}

pub returns-then-close-clause-answer : goal.returns-then-close-clause-answer
returns-then-close-clause-answer c = λ claim asked forces.
    let sound = subst IsNetlist (c.requires.searched.netlist ∙ sym asked.posed.circuit) c.requires.searched.sound in
    let goes = subst (λ (net : Circuit). WindowsGoOn (with_pairs claim (starts_of net c.close.new.starts))) (sym asked.posed.circuit) (c.close.ensures.proved c.if-close.true claim asked) in
    let first = c.lead_in.new.starts in
    let joined = c.join.new.starts in
    let kept = kept_on first joined c.close.new.starts (joined_kept first c.args.forced.now joined c.join.ensures) c.close.ensures.kept in
    let with_some : LeavesStarts claim first → IsProvedWithSome claim = λ leaves. proved claim first leaves sound c.close.new.starts kept goes in
    elim c.match-lead_in.branch [
      | in-MayDiffer w ↦ (let led = w.in-MayDiffer.ensures.led claim asked in subst (IsAnswer claim) (sym w.whole-is) (with_some led.0, led.1))
      | in-Agrees w ↦ (let led = w.in-Agrees.ensures.led claim asked in subst (IsAnswer claim) (sym w.whole-is) (with_some led.0, led.1))
    ]

pub returns-else-close-clause-answer : goal.returns-else-close-clause-answer
returns-else-close-clause-answer c = λ claim asked forces.
    let first = c.lead_in.new.starts in
    let leaves : LeavesStarts claim first = elim c.match-lead_in.branch [
      | in-MayDiffer w ↦ (w.in-MayDiffer.ensures.led claim asked).0
      | in-Agrees w ↦ (w.in-Agrees.ensures.led claim asked).0
    ] in
    never claim first leaves (λ pairs allows proof.
    let other = with_pairs claim pairs in
    let there : IsAsked c.args.searched.now.netlist.now c.args.question.now other = record {
      posed = record {
        circuit = asked.posed.circuit;
        observed = asked.posed.observed;
        alarms = asked.posed.alarms;
        held = asked.posed.held;
        from = asked.posed.from;
        window = asked.posed.window;
        ahead = asked.posed.ahead;
      };
      sites = asked.sites;
    } in
    c.close.ensures.open c.if-close.false other there
    (joined_allowed other first c.args.forced.now c.join.new.starts c.join.ensures allows (forces pairs proof)) proof)
