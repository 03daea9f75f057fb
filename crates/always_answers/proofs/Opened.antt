-- Nets that are open alone, and what is answered where something contradicts itself.
use Rattle.std.proofs.Common.{◌≡◌, ◌⊎◌, inl, inr, ℕ, ◌<◌, Bool, true, false, ◌&&◌, List, length, refl, ap, sym, subst, ◌∙◌, arith}
use Rattle.std.proofs.lemmas.Bool.{cases_Bool}
use Rattle.fm_base.proofs.Tests.{and_both, clash}
use Rattle.alarm_points.specs.PointsFile.{observed}
use Rattle.circuit.specs.Circuit.{Circuit}
use Rattle.circuit.specs.Value.{bit_at}
use Rattle.circuit.specs.declared.parts.NetId.{NetId}
use Rattle.claim_search.proofs.Faulty.{pulse_at}
use Rattle.claim_search.proofs.Regions.{posed_so}
use Rattle.claim_search.specs.Answer.{IsAnswer, IsNeverProvedSimply, IsProvedWithSome}
use Rattle.claim_search.specs.Hypotheses.{Contradict}
use Rattle.claim_search.specs.LeadIn.{HasNoRuns}
use Rattle.claim_search.specs.Question.{IsPosed, with_region}
use Rattle.claim_search.specs.Sites.{answer_at}
use Rattle.claim_search.specs.declared.answer.Answer.{Answer}
use Rattle.claim_search.specs.declared.answer.Answer.TheVariants.{Alarmed, Early, NoRuns, Open}
use Rattle.claim_search.specs.declared.hypotheses.Contradiction.TheVariants.{Held}
use Rattle.claim_search.specs.declared.question.Posed.{Posed}
use Rattle.coverage_claim.specs.Claim.{Claim}
use Rattle.reach.specs.Paths.{LeadsToSome}
use Rattle.always_answers.specs.Nets.{AreOpen, IsSeen, alone}
use Rattle.always_answers.specs.Steps.{AreFree, AreMarked, AreSeen, is_none, is_open}

open_is : (claim : Claim) (answer : Answer) → is_open answer ≡ true → IsAnswer claim answer → IsNeverProvedSimply claim
open_is claim Open e it = it
open_is claim Alarmed e it = absurd (clash false e refl)
open_is claim Early e it = absurd (clash false e refl)
open_is claim NoRuns e it = absurd (clash false e refl)

none_is : (claim : Claim) (answer : Answer) → is_none answer ≡ true → IsAnswer claim answer → HasNoRuns claim
none_is claim NoRuns e it = it
none_is claim Alarmed e it = absurd (clash false e refl)
none_is claim Early e it = absurd (clash false e refl)
none_is claim Open e it = absurd (clash false e refl)

proved_is : (claim : Claim) (answer : Answer) → is_open answer ≡ false → is_none answer ≡ false → IsAnswer claim answer → IsProvedWithSome claim
proved_is claim Alarmed e f it = it.0
proved_is claim Early e f it = it.0
proved_is claim Open e f it = absurd (clash true refl e)
proved_is claim NoRuns e f it = absurd (clash true refl f)

module _ (c : Circuit) (p : Posed) (seen : List Bool) (free : List Answer) (are : AreSeen c p.observed.now seen) (answered : AreFree c p seen free) (claim : Claim) (posed : IsPosed c p claim) where
  -- the answer to a net alone
  alone_answer : (net : NetId) → bit_at seen net.0 ≡ true → IsAnswer (with_region claim (alone net)) (answer_at free net.0)
  alone_answer net e = answered (with_region claim (alone net)) (posed_so c p claim (alone net) posed) net.0 e (pulse_at c net 0)

  leads_so : (one : NetId) → LeadsToSome c one p.observed.now → IsSeen claim one
  leads_so one leads = subst (λ (each : Circuit). LeadsToSome each one (observed claim.points)) (sym posed.circuit) (subst (LeadsToSome c one) (sym posed.observed) leads)

  led_so : (one : NetId) → IsSeen claim one → LeadsToSome c one p.observed.now
  led_so one leads = subst (LeadsToSome c one) posed.observed (subst (λ (each : Circuit). LeadsToSome each one (observed claim.points)) posed.circuit leads)

  -- A NET without runs: no run is as it is supposed
  pub one_has_none : (n : ℕ) → bit_at seen n ≡ true → is_none (answer_at free n) ≡ true → Contradict claim Held
  one_has_none n e none = (alone (record { 0 = n }), none_is (with_region claim (alone (record { 0 = n }))) (answer_at free n) none (alone_answer (record { 0 = n }) e))

  module _ (marks : List Bool) (marked : AreMarked free seen (length seen) marks) where
    within : (n : ℕ) → n < length c.drivers → n < length seen
    within n lt = (let it = are.count in omega (arith, lt, it))

    -- THESE ARE THE NETS that are open alone
    pub are_open : ((n : ℕ) → bit_at marks n ≡ true → n < length marks) → AreOpen claim marks
    are_open inside = record {
      count = marked.size ∙ are.count ∙ ap (λ (each : Circuit). length each.drivers) (sym posed.circuit);
      open_alone = λ net e. (
          let lt = inside net.0 e in
          let both = and_both (bit_at seen net.0) (is_open (answer_at free net.0)) (sym (marked.each net.0 (let it = marked.size in omega (arith, lt, it))) ∙ e) in
          (leads_so net (are.leads net.0 both.0), open_is (with_region claim (alone net)) (answer_at free net.0) both.1 (alone_answer net both.0)));
      covered = λ net is e leads. (
          let own : net.0 < length c.drivers = (let it = ap (λ (each : Circuit). length each.drivers) posed.circuit in omega (arith, is, it)) in
          let lt = within net.0 own in
          by_mark net own e (led_so net leads) (cases_Bool (bit_at seen net.0)));
    }
      where
        by_mark : (net : NetId) → net.0 < length c.drivers → bit_at marks net.0 ≡ false → LeadsToSome c net p.observed.now
            → (bit_at seen net.0 ≡ true) ⊎ (bit_at seen net.0 ≡ false) → IsProvedWithSome (with_region claim (alone net))
        by_mark net lt e leads (inr lacks) = absurd (are.none net.0 lt lacks leads)
        by_mark net lt e leads (inl has_it) =
            proved_is (with_region claim (alone net)) (answer_at free net.0) (not_open (cases_Bool (is_open (answer_at free net.0)))) (marked.runs net.0 (within net.0 lt) has_it) (alone_answer net has_it)
          where
            not_open : (is_open (answer_at free net.0) ≡ true) ⊎ (is_open (answer_at free net.0) ≡ false) → is_open (answer_at free net.0) ≡ false
            not_open (inr lacks) = lacks
            not_open (inl it) = absurd (clash (bit_at marks net.0) (marked.each net.0 (within net.0 lt) ∙ ap (λ b. b && is_open (answer_at free net.0)) has_it ∙ it) e)

    -- each of them leads to an observation net
    pub open_seen : ((n : ℕ) → bit_at marks n ≡ true → n < length marks) → (n : ℕ) → bit_at marks n ≡ true → bit_at seen n ≡ true
    open_seen inside n e =
        let lt = inside n e in
        (and_both (bit_at seen n) (is_open (answer_at free n)) (sym (marked.each n (let it = marked.size in omega (arith, lt, it))) ∙ e)).0
