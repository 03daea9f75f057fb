-- All that is answered, put together.
use Rattle.std.proofs.Common.{◌≡◌, ◌≢◌, ℕ, Bool, List, Some, length, ap, sym, subst, ◌∙◌, arith}
use Rattle.std.specs.Prelude.{All, IsErrAnd, Result, Err, slice_index}
use Rattle.std.specs.List.{slice_get}
use Rattle.std.proofs.lemmas.List.{get_or_default}
use Rattle.std.proofs.lemmas.Option.{get_or_from_slice_get, slice_get_within}
use Rattle.std.proofs.lemmas.Result.{err_from_is_err_and}
use Rattle.fm_base.proofs.Tests.{clash}
use Rattle.circuit.specs.Circuit.{Circuit}
use Rattle.circuit.specs.declared.parts.Fault.{Fault}
use Rattle.claim_search.specs.Faults.{IsFaultAnswer}
use Rattle.claim_search.specs.Hypotheses.{ContradictSimply}
use Rattle.claim_search.specs.Question.{IsPosed}
use Rattle.claim_search.specs.declared.answer.Answer.{Answer}
use Rattle.claim_search.specs.declared.answer.Answer.TheVariants.{NoRuns}
use Rattle.claim_search.specs.declared.faults.FaultAnswer.{FaultAnswer}
use Rattle.claim_search.specs.declared.faults.FaultAnswer.TheVariants.{NoPath as NoPathOfFault, OfClaim}
use Rattle.claim_search.specs.declared.hypotheses.Contradiction.TheVariants.{Alarms, Held}
use Rattle.claim_search.specs.declared.question.Posed.{Posed}
use Rattle.coverage_claim.specs.Claim.{Claim}
use Rattle.fault_list.specs.Faults.{fault_at}
use Rattle.always_answers.specs.Answers.{AreAnswers, AreAnswersTo, IsPartAnswer, claim_of}
use Rattle.always_answers.specs.PartSteps.{AreParts, ArePartsSoFar, IsPartSoFar}
use Rattle.always_answers.specs.Steps.{AreFirstAnswers, AreFree, AreMarked, AreSeen, HasCause, MarksOpen, fault_answer_at, is_runless}
use Rattle.always_answers.specs.declared.answers.Answers.{Answers}
use Rattle.always_answers.specs.declared.answers.NoAnswers.{NoAnswers}
use Rattle.always_answers.specs.declared.answers.NoAnswers.TheVariants.{Contradiction, Memory}
use Rattle.always_answers.specs.declared.answers.PartAnswer.{PartAnswer}
use Rattle.always_answers.specs.declared.answers.PartAnswer.TheVariants.{NoPath}
use Rattle.always_answers.specs.declared.inquiry.Inquiry.{Inquiry}
use Rattle.always_answers.specs.declared.parts.Parts.{Parts}
use Rattle.always_answers.proofs.Opened.{are_open, one_has_none, open_seen}
use Rattle.always_answers.proofs.Parted.{all_tried}
use Rattle.always_answers.proofs.Picking.{within_marks}

-- marks of nets that lead to an observation net, and of those that are open alone
pub are_parts : (c : Circuit) (p : Posed) (claim : Claim) → IsPosed c p claim → (free : List Answer) (parts : Parts) → length parts.of_nets.now ≡ length c.drivers
    → AreSeen c p.observed.now parts.seen.now → AreFree c p parts.seen.now free → AreMarked free parts.seen.now (length parts.seen.now) parts.open.now → AreParts c p parts
are_parts c p claim posed free parts count seen answered marked = record {
  count = count;
  seen = seen;
  open_count = marked.size ∙ seen.count;
  open_seen = open_seen c p parts.seen.now free seen answered claim posed parts.open.now marked (within_marks parts.open.now);
}

module _ (c : Circuit) (p : Posed) (claim : Claim) (posed : IsPosed c p claim) (answers : Answers) where
  fault_is : (faults : List Fault) → AreFirstAnswers c p faults (length faults) answers.faults.items → (i : ℕ) (fault : Fault) (answer : FaultAnswer)
      → slice_get faults i ≡ Some fault → slice_get answers.faults.items i ≡ Some answer → IsFaultAnswer claim.circuit claim fault answer
  fault_is faults are i fault answer there found =
      subst (λ (each : Circuit). IsFaultAnswer each claim fault answer) (sym posed.circuit)
      (subst (λ (one : Fault). IsFaultAnswer c claim one answer) (get_or_from_slice_get faults i fault _ there)
      (subst (IsFaultAnswer c claim (fault_at faults i)) (get_or_from_slice_get answers.faults.items i answer NoPathOfFault found) (are.each claim posed i (slice_get_within faults i fault there))))

  has_runs : (faults : List Fault) → AreFirstAnswers c p faults (length faults) answers.faults.items → All (λ answer. answer ≢ OfClaim NoRuns) answers.faults.items
  has_runs faults are i d lt same =
      clash (is_runless (fault_answer_at answers.faults.items i)) (ap is_runless (get_or_default answers.faults.items i NoPathOfFault d lt ∙ same)) (are.runs i (let it = are.size in omega (arith, lt, it)))

  part_is : (parts : Parts) (count tried : ℕ) → tried ≡ claim.window → ArePartsSoFar c p parts count tried answers.parts.items → (part : ℕ) (answer : PartAnswer)
      → slice_get answers.parts.items part ≡ Some answer → IsPartAnswer claim (slice_index parts.of_nets.now) parts.open.now part answer
  part_is parts count tried end are part answer found =
      let lt = slice_get_within answers.parts.items part answer found in
      all_tried claim (slice_index parts.of_nets.now) parts.open.now part tried answer end
      (subst (IsPartSoFar claim (slice_index parts.of_nets.now) parts.open.now part tried) (get_or_from_slice_get answers.parts.items part answer NoPath found)
      (are.each claim posed part (let it = are.size in omega (arith, lt, it))))

  -- THESE ARE THE ANSWERS to the claim
  pub are_answers : (faults : List Fault) (parts : Parts) (count : ℕ) (free : List Answer) → ¬ (ContradictSimply claim) → AreFirstAnswers c p faults (length faults) answers.faults.items
      → AreSeen c p.observed.now parts.seen.now → AreFree c p parts.seen.now free → AreMarked free parts.seen.now (length parts.seen.now) answers.open.items → answers.open.items ≡ parts.open.now
      → ArePartsSoFar c p parts count p.window answers.parts.items → AreAnswers claim faults (slice_index parts.of_nets.now) count answers
  are_answers faults parts count free possible of_faults seen answered marked same of_parts = record {
    possible = possible;
    fault_count = of_faults.size;
    faults_are = fault_is faults of_faults;
    runs = has_runs faults of_faults;
    open_nets = are_open c p parts.seen.now free seen answered claim posed answers.open.items marked (within_marks answers.open.items);
    part_count_is = of_parts.size;
    parts_are = λ part answer found. subst (λ marks. IsPartAnswer claim (slice_index parts.of_nets.now) marks part answer) (sym same)
        (part_is parts count p.window (sym posed.window) of_parts part answer found);
  }

-- ---- why there are none

pub passed_on : (asked : Inquiry) (result : Result Answers NoAnswers) (why : NoAnswers) → IsErrAnd result (λ e. e ≡ why) → AreAnswersTo asked (Err why) → AreAnswersTo asked result
passed_on asked result why is it =
    let from = err_from_is_err_and result is in
    subst (AreAnswersTo asked) (sym (from.1 ∙ ap Err from.2)) it

pub cause_answers : (asked : Inquiry) (c : Circuit) (p : Posed) (why : NoAnswers) → IsPosed c p (claim_of asked) → HasCause c p why → AreAnswersTo asked (Err why)
cause_answers asked c p (Contradiction why) posed cause = cause (claim_of asked) posed
cause_answers asked c p (Memory no_room) posed cause = tt

pub marks_cause : (asked : Inquiry) (c : Circuit) (p : Posed) (seen : List Bool) (free : List Answer) (why : NoAnswers) → AreSeen c p.observed.now seen → AreFree c p seen free
    → IsPosed c p (claim_of asked) → MarksOpen free seen (Err why) → AreAnswersTo asked (Err why)
marks_cause asked c p seen free (Contradiction Held) are answered posed it = one_has_none c p seen free are answered (claim_of asked) posed it.0 it.1 it.2
marks_cause asked c p seen free (Contradiction Alarms) are answered posed it = absurd it
marks_cause asked c p seen free (Memory no_room) are answered posed it = tt
