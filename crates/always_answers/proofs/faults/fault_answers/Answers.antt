use Rattle.std.proofs.Common.{◌+◌, Bool, List, ap, sym, subst, ◌∙◌}
use Rattle.circuit.specs.Value.{bit_at}
use Rattle.fault_list.specs.Faults.{fault_at}
use Rattle.always_answers.specs.Steps.{AreFirstAnswers}
use Rattle.always_answers.proofs.Faulted.{answers_push, runless_none}
use Rattle.always_answers.proofs.faults.fault_answers.Goals as goal

pub answer_at-answer-requires-clause-contradicted : goal.answer_at-answer-requires-clause-contradicted
answer_at-answer-requires-clause-contradicted c = λ e claim posed.
    c.in_ok-marks.ensures.open claim posed c.loop-i.i (ap (λ (marks : List Bool). bit_at marks c.loop-i.i) (sym c.deref-in-loop-i.ensures.value) ∙ sym c.bit-is_contradicted.ensures ∙ e)

pub returns-then-is_runless-clause-answers : goal.returns-then-is_runless-clause-answers
returns-then-is_runless-clause-answers c = λ claim posed.
    runless_none c.args.searched.now.netlist.now claim (fault_at c.args.faults.now c.loop-i.i) c.answer_at-answer.result (sym c.is_runless.ensures ∙ c.if-is_runless.true)
    (c.answer_at-answer.ensures.answer claim posed)

pub loop-i-preserved : goal.loop-i-preserved
loop-i-preserved c =
    let own = c.args.searched.now.netlist.now in
    let faults = c.args.faults.now in
    record {
      ready = c.answer_at-answer.ensures.ready;
      first = subst (AreFirstAnswers own c.args.posed.now faults (c.loop-i.i + 1)) (sym c.in_ok-push.ensures.items)
          (answers_push own c.args.posed.now faults c.loop-i.i c.loop-i.answers.items c.answer_at-answer.result c.loop-i.invariant.first (sym c.is_runless.ensures ∙ c.if-is_runless.false)
          c.answer_at-answer.ensures.answer);
    }
