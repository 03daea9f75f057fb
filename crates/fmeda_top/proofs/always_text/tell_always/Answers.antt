use Rattle.std.proofs.Common.{◌∙◌, Ok, Err, List, subst, sym}
use Rattle.always.specs.Asked.{AnswersPlan, terms_of_plan}
use Rattle.always_answers.specs.declared.answers.NoAnswers.{NoAnswers}
use Rattle.always_answers.specs.declared.answers.NoAnswers.TheVariants.{Contradiction}
use Rattle.coverage_claim.specs.declared.parts.Held.{Held}
use Rattle.fmeda_top.proofs.Asking.{always_contradicts, always_refused, always_told}
use Rattle.fmeda_top.proofs.always_text.tell_always.Goals as goal

pub returns-in-Some : goal.returns-in-Some
returns-in-Some g c =
    let own = c.args.supposed.now in
    always_refused own.plan own.held c.args.window c.args.ahead (g.O.Sink.seen c.args.out.now) c.in-Some.why c.not_asked.result (sym c.asked_fault.ensures ∙ c.in-Some.is)
    c.not_asked.ensures

pub returns-in-Ok : goal.returns-in-Ok
returns-in-Ok g c =
    let own = c.args.supposed.now in
    let before = g.O.Sink.seen c.args.out.now in
    let after = g.O.Sink.seen c.answer_plan.new.out in
    always_told own.plan own.held c.args.window c.args.ahead own.order c.requires.sound.plan c.requires.sound.order c.asked_terms_fit.ensures
    (sym c.asked_fault.ensures ∙ c.in_default.is) before after c.in-Ok.written c.after_text.result
    (subst (λ (held : List Held). AnswersPlan own.plan (terms_of_plan own.plan held c.args.window c.args.ahead) before after (Ok c.in-Ok.written)) c.as_slice-held.ensures c.in-Ok.ensures)
    c.after_text.ensures.done c.after_text.ensures.failed

pub returns-in-Err-Contradiction : goal.returns-in-Err-Contradiction
returns-in-Err-Contradiction g c =
    let own = c.args.supposed.now in
    let before = g.O.Sink.seen c.args.out.now in
    let after = g.O.Sink.seen c.answer_plan.new.out in
    always_contradicts own.plan own.held c.args.window c.args.ahead own.order c.requires.sound.plan c.requires.sound.order c.asked_terms_fit.ensures
    (sym c.asked_fault.ensures ∙ c.in_default.is) before after c.in-Err-Contradiction.why
    (subst (λ (held : List Held). AnswersPlan own.plan (terms_of_plan own.plan held c.args.window c.args.ahead) before after (Err (Contradiction c.in-Err-Contradiction.why)))
    c.as_slice-held.ensures (subst (λ (why : NoAnswers). AnswersPlan own.plan (terms_of_plan own.plan c.as_slice-held.result.now c.args.window c.args.ahead) before after (Err why))
    c.in-Err-Contradiction.field-0-is c.in-Err-Contradiction.ensures))
