-- How `always` has told its text.
use Rattle.std.proofs.Common.{◌≡◌, ◌∙◌, ℕ, List, Ok, Err, ap, refl, subst, sym, inl, inr}
use Rattle.std.specs.Prelude.{Option, Some, None, Result, OnOk, OnErr, option_map}
use Rattle.fm_shelf.specs.Sink.{SinkState}
use Rattle.fm_shelf.specs.declared.shelf.Failed.{Failed}
use Rattle.campaign_plan.specs.Analysis.{Analysis}
use Rattle.campaign_plan.specs.Kept.{IsPlan}
use Rattle.circuit.specs.Order.{IsOrder}
use Rattle.circuit.specs.declared.parts.NetId.{NetId}
use Rattle.coverage_claim.specs.declared.parts.Held.{Held}
use Rattle.claim_search.specs.declared.hypotheses.Contradiction.{Contradiction as Cause}
use Rattle.always_answers.specs.declared.answers.NoAnswers.TheVariants.{Contradiction}
use Rattle.always.specs.Asked.{AnswersPlan, AskedTermsFit, asked_fault, terms_of_plan}
use Rattle.always.specs.Laws.{AreTermsFor}
use Rattle.always.specs.Verdict.{Terms}
use Rattle.always.specs.declared.asked.AskedFault.{AskedFault}
use Rattle.always.specs.declared.asked.AskedFault.TheVariants.{LongWindow, NoAlarm}
use Rattle.commands.specs.declared.command.Task.{Task}
use Rattle.commands.specs.declared.command.Task.TheVariants as task
use Rattle.refusals.specs.declared.refused.Refused.TheVariants.{By}
use Rattle.refusals.specs.declared.status.Status.{Status}
use Rattle.refusals.specs.declared.status.Status.TheVariants as status
use Rattle.refusals.specs.Refusals.{IsPlain}
use Rattle.command_reads.specs.FirstRefusal.{Judged, Supposed}
use Rattle.fmeda_top.specs.TaskRefusals.{not_asked, task_refusal}
use Rattle.fmeda_top.specs.Doing.{AnswersAs}

not_asked_is_plain : (why : AskedFault) → IsPlain (not_asked why)
not_asked_is_plain NoAlarm = tt
not_asked_is_plain (LongWindow window least) = tt

module _ (p : Analysis) (held : List Held) (window : Option ℕ) (ahead : ℕ) where
  abbrev own : Task
  own = task.Always window ahead

  abbrev made : Judged
  made = Supposed p held

  abbrev terms : Terms
  terms = terms_of_plan p held window ahead

  -- nothing is asked of the plan
  pub always_refused : (out : SinkState) (why : AskedFault) (ended : Status) → asked_fault p window ≡ Some why → ended ≡ not_asked why
      → AnswersAs own p terms made out out (Err (By ended))
  always_refused out why ended is told =
      (inr (inl (ap (option_map not_asked) is ∙ ap (λ s. Some s) (sym told))), subst IsPlain (sym told) (not_asked_is_plain why), refl)

  module _ (order : List NetId) (plan : IsPlan p) (ordered : IsOrder p.circuit order) (fit : AskedTermsFit) (free : asked_fault p window ≡ None) where
    fits : AreTermsFor p terms
    fits = fit p order plan ordered held window ahead free

    unrefused : task_refusal own made ≡ None
    unrefused = ap (option_map not_asked) free

    -- the text of right answers was sent
    pub always_told : (before after : SinkState) (r : Result (Unit {0}) Failed) (ended : Status) → AnswersPlan p terms before after (Ok r)
        → OnOk r (ended ≡ status.Done) → OnErr r (ended ≡ status.OutFault) → AnswersAs own p terms made before after (Ok ended)
    always_told before after (Ok v) ended (answers, right, sent) done failed = (unrefused, fits, sent.grows, (answers, right, inl (done, sent.ok)))
    always_told before after (Err e) ended (answers, right, sent) done failed = (unrefused, fits, sent.grows, (answers, right, inr (failed, sent.failed)))

    -- what is supposed contradicts itself
    pub always_contradicts : (before after : SinkState) (why : Cause) → AnswersPlan p terms before after (Err (Contradiction why))
        → AnswersAs own p terms made before after (Err (By (status.Contradiction why)))
    always_contradicts before after why (holds, same) = (inr (inr (unrefused, fits, (why, holds, refl))), tt, same)
