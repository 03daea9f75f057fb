-- The nets of faults, and the answers to these nets.
use Rattle.std.proofs.Common.{◌≡◌, ◌⊎◌, inl, inr, ℕ, ◌+◌, ◌<◌, Bool, true, false, List, [], ◌∷◌, ◌++◌, length, refl, ap, sym, subst, ◌∙◌, arith}
use Rattle.std.proofs.lemmas.Bool.{cases_Bool}
use Rattle.std.proofs.lemmas.List.{length_push}
use Rattle.std.proofs.lemmas.Option.{get_or_from_slice_get}
use Rattle.fm_base.proofs.Tests.{clash}
use Rattle.circuit.specs.Circuit.{Circuit}
use Rattle.circuit.specs.Sound.{IsNet}
use Rattle.circuit.specs.Value.{bit_at}
use Rattle.circuit.specs.declared.parts.Fault.{Fault}
use Rattle.circuit.specs.declared.parts.Fault.TheVariants.{Flip, Pulse, Stuck}
use Rattle.circuit.specs.declared.parts.Latch.{Latch}
use Rattle.circuit.specs.declared.parts.NetId.{NetId}
use Rattle.claim_search.specs.Faults.{IsFaultAnswer}
use Rattle.claim_search.specs.Hypotheses.{Contradict}
use Rattle.claim_search.specs.Question.{IsPosed}
use Rattle.claim_search.specs.Sites.{IsAnswerAt, answer_at}
use Rattle.claim_search.specs.declared.answer.Answer.{Answer}
use Rattle.claim_search.specs.declared.answer.Answer.TheVariants.{Alarmed, Early, NoRuns, Open}
use Rattle.claim_search.specs.declared.faults.FaultAnswer.{FaultAnswer}
use Rattle.claim_search.specs.declared.faults.FaultAnswer.TheVariants.{NoPath, OfClaim}
use Rattle.claim_search.specs.declared.hypotheses.Contradiction.TheVariants.{Held}
use Rattle.claim_search.specs.declared.question.Posed.{Posed}
use Rattle.coverage_claim.specs.Claim.{Claim}
use Rattle.coverage_claim.specs.Region.{region_of}
use Rattle.coverage_claim.specs.declared.parts.Site.TheVariants.{Free}
use Rattle.fault_list.specs.Faults.{fault_at, net_of_fault}
use Rattle.reach.specs.Paths.{ActsOn, LeadsToSome}
use Rattle.always_answers.specs.Answers.{AreOn}
use Rattle.always_answers.specs.Steps.{AreFirstAnswers, AreFree, AreSeen, is_runless}
use Rattle.always_answers.proofs.Picking.{in_push}

-- a fault acts on its own net alone
pub acts_there : (c : Circuit) (net : NetId) (fault : Fault) → ActsOn c net fault → net.0 ≡ net_of_fault c fault
acts_there c net (Stuck n value) same = sym (ap (λ (m : NetId). m.0) same)
acts_there c net (Flip l cycle) there =
    sym (ap (λ (latch : Latch). latch.to.0) (get_or_from_slice_get c.latches l there.0 _ there.1) ∙ ap (λ (m : NetId). m.0) there.2)
acts_there c net (Pulse n cycle) same = sym (ap (λ (m : NetId). m.0) same)

module _ (c : Circuit) (faults : List Fault) (on : AreOn c faults) (i : ℕ) (lt : i < length faults) (fault : Fault) (is : fault ≡ fault_at faults i) where
  pub own_within : (n : ℕ) → n ≡ net_of_fault c fault → n < length c.drivers
  own_within n own = (let within = on i lt in let same : n ≡ net_of_fault c (fault_at faults i) = own ∙ ap (net_of_fault c) is in omega (arith, within, same))

  pub acts_on_net : (net : NetId) → ActsOn c net fault → IsNet c net
  acts_on_net net acts = own_within net.0 (acts_there c net fault acts)

-- the answer to the net of a fault
pub free_there : (c : Circuit) (p : Posed) (seen : List Bool) (free : List Answer) (fault : Fault) (n : ℕ) → n ≡ net_of_fault c fault
    → AreSeen c p.observed.now seen → AreFree c p seen free → (claim : Claim) → IsPosed c p claim → (net : NetId) → ActsOn c net fault
    → LeadsToSome c net p.observed.now → IsNet c net → IsAnswerAt claim net Free (answer_at free n)
free_there c p seen free fault n own are answered claim posed net acts leads within =
    let same : net.0 ≡ n = acts_there c net fault acts ∙ sym own in
    subst (λ m. IsAnswerAt claim net Free (answer_at free m)) same (answered claim posed net.0 (marked (cases_Bool (bit_at seen net.0))))
  where
    marked : (bit_at seen net.0 ≡ true) ⊎ (bit_at seen net.0 ≡ false) → bit_at seen net.0 ≡ true
    marked (inl has_it) = has_it
    marked (inr lacks) = absurd (are.none net.0 within lacks leads)

-- ---- answers

-- a fault without runs: no run is as it is supposed
pub runless_none : (c : Circuit) (claim : Claim) (fault : Fault) (answer : FaultAnswer) → is_runless answer ≡ true → IsFaultAnswer c claim fault answer → Contradict claim Held
runless_none c claim fault NoPath e it = absurd (clash false e refl)
runless_none c claim fault (OfClaim NoRuns) e it = (region_of c fault, it.1)
runless_none c claim fault (OfClaim Alarmed) e it = absurd (clash false e refl)
runless_none c claim fault (OfClaim Early) e it = absurd (clash false e refl)
runless_none c claim fault (OfClaim Open) e it = absurd (clash false e refl)

-- ONE FAULT MORE has its answer
pub answers_push : (c : Circuit) (p : Posed) (faults : List Fault) (n : ℕ) (answers : List FaultAnswer) (answer : FaultAnswer) → AreFirstAnswers c p faults n answers
    → is_runless answer ≡ false → ((claim : Claim) → IsPosed c p claim → IsFaultAnswer c claim (fault_at faults n) answer) → AreFirstAnswers c p faults (n + 1) (answers ++ answer ∷ [])
answers_push c p faults n answers answer first fails is = record {
  size = length_push answers answer ∙ ap (λ k. k + 1) first.size;
  runs = λ i lt. in_push (λ _ each. is_runless each ≡ false) answers answer NoPath (λ j less. first.runs j (let it = first.size in omega (arith, less, it))) fails i
      (let it = first.size in omega (arith, lt, it));
  each = λ claim posed i lt. in_push (λ j each. IsFaultAnswer c claim (fault_at faults j) each) answers answer NoPath (λ j less. first.each claim posed j (let it = first.size in omega (arith, less, it)))
      (subst (λ k. IsFaultAnswer c claim (fault_at faults k) answer) (sym first.size) (is claim posed)) i (let it = first.size in omega (arith, lt, it));
}
