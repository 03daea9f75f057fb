-- The regions of faults.
use Rattle.std.proofs.Common.{◌≡◌, ◌≢◌, ℕ, zero, suc, Bool, true, false, List, [], ◌∷◌, Some, refl, ap, sym, subst, ◌∙◌, arith}
use Rattle.std.specs.Prelude.{◌==◌, All, if◌then◌else◌}
use Rattle.std.specs.List.{slice_get}
use Rattle.std.specs.Option.{option_map_or}
use Rattle.std.proofs.lemmas.Bool.{eq-eqb, ne_eqb}
use Rattle.circuit.specs.Circuit.{Circuit}
use Rattle.circuit.specs.declared.parts.Fault.{Fault}
use Rattle.circuit.specs.declared.parts.Fault.TheVariants.{Flip, Pulse, Stuck}
use Rattle.circuit.specs.declared.parts.Latch.{Latch}
use Rattle.circuit.specs.declared.parts.NetId.{NetId}
use Rattle.coverage_claim.specs.Claim.{Claim}
use Rattle.coverage_claim.specs.Region.{Region, region_of}
use Rattle.coverage_claim.specs.declared.parts.Site.{Site}
use Rattle.coverage_claim.specs.declared.parts.Site.TheVariants.{Free, Intact, Only}
use Rattle.reach.specs.Paths.{ActsOn, CanChangeSome, LeadsToSome}
use Rattle.claim_search.specs.Answer.{IsAnswer, is_of_parts}
use Rattle.claim_search.specs.Question.{IsPosed, with_region}
use Rattle.claim_search.specs.Sites.{IsAnswerAt, IsAt}
use Rattle.claim_search.specs.declared.answer.Answer.{Answer}
use Rattle.claim_search.specs.declared.question.Posed.{Posed}
use Rattle.claim_search.proofs.Halving.{answer_less}
use Rattle.claim_search.proofs.Regions.{free_in, free_is_at, posed_so}

-- one net has the site, and no other
one_site : (net : NetId) (site : Site) (region : Region) → ((n : ℕ) → region n ≡ (if net.0 == n then site else Intact)) → IsAt (net ∷ []) site region
one_site net site region is = record {
  there = at_first;
  elsewhere = λ n out. (
      let apart : net.0 ≢ n = out 0 (record { 0 = 0 }) (omega arith) in
      let none : (net.0 == n) ≡ false = ne_eqb net.0 n apart in
      is n ∙ ap (λ (test : Bool). if test then site else Intact) none);
}
  where
    at_first : All (λ (each : NetId). region each.0 ≡ site) (net ∷ [])
    at_first zero d lt = (let same : (net.0 == net.0) ≡ true = eq-eqb net.0 net.0 refl in is net.0 ∙ ap (λ (test : Bool). if test then site else Intact) same)
    at_first (suc k) d lt = absurd (omega (arith, lt))

pub stuck_at : (c : Circuit) (net : NetId) (value : Bool) → IsAt (net ∷ []) (Only value) (region_of c (Stuck net value))
stuck_at c net value = one_site net (Only value) (region_of c (Stuck net value)) (λ n. refl)

pub pulse_at : (c : Circuit) (net : NetId) (cycle : ℕ) → IsAt (net ∷ []) Free (region_of c (Pulse net cycle))
pulse_at c net cycle = one_site net Free (region_of c (Pulse net cycle)) (λ n. refl)

pub flip_at : (c : Circuit) (l cycle : ℕ) (latch : Latch) → slice_get c.latches l ≡ Some latch → IsAt (latch.to ∷ []) Free (region_of c (Flip l cycle))
flip_at c l cycle latch at = one_site latch.to Free (region_of c (Flip l cycle))
    (λ n. ap (λ found. if option_map_or (λ (each : Latch). each.to.0 == n) found false then Free else Intact) at)

-- a net that is stuck is less than a free one
pub stuck_less : (c : Circuit) (p : Posed) (net : NetId) (value : Bool) (free : Answer) → is_of_parts free ≡ true
    → ((claim : Claim) → IsPosed c p claim → IsAnswerAt claim net Free free) → (claim : Claim) → IsPosed c p claim → IsAnswerAt claim net (Only value) free
stuck_less c p net value free passes answered claim posed is_at =
    answer_less claim (net ∷ []) 0 (omega arith) (Only value) is_at free passes
    (answered (with_region claim (free_in (net ∷ []))) (posed_so c p claim (free_in (net ∷ [])) posed) (free_is_at (net ∷ [])))

-- ---- what a fault can change

pub can_change : (c other : Circuit) (fault : Fault) (nets goals : List NetId) → other ≡ c → nets ≡ goals → CanChangeSome other fault nets → CanChangeSome c fault goals
can_change c other fault nets goals same points can =
    subst (λ (net : Circuit). CanChangeSome net fault goals) same (subst (λ (all : List NetId). CanChangeSome other fault all) points can)

-- a net that is stuck leads there itself
pub stuck_leads : (c : Circuit) (fault : Fault) (goals : List NetId) (net : NetId) (value : Bool) → fault ≡ Stuck net value → CanChangeSome c fault goals → LeadsToSome c net goals
stuck_leads c fault goals net value is can = subst (λ (each : NetId). LeadsToSome c each goals) (sym (subst (ActsOn c can.0) is can.1)) can.2

module _ (c : Circuit) (fault : Fault) (goals : List NetId) (can : CanChangeSome c fault goals) (claim : Claim) (answer : Answer)
    (answered : (net : NetId) → ActsOn c net fault → LeadsToSome c net goals → IsAnswerAt (with_region claim (region_of c fault)) net Free answer) where
  pub flip_answer : (l cycle : ℕ) → fault ≡ Flip l cycle → IsAnswer (with_region claim (region_of c fault)) answer
  flip_answer l cycle is =
      let acts = subst (ActsOn c can.0) is can.1 in
      answered can.0 can.1 can.2 (subst (λ (each : Fault). IsAt (can.0 ∷ []) Free (region_of c each)) (sym is)
      (subst (λ (net : NetId). IsAt (net ∷ []) Free (region_of c (Flip l cycle))) acts.2 (flip_at c l cycle acts.0 acts.1)))

  pub pulse_answer : (net : NetId) (cycle : ℕ) → fault ≡ Pulse net cycle → IsAnswer (with_region claim (region_of c fault)) answer
  pulse_answer net cycle is =
      let acts = subst (ActsOn c can.0) is can.1 in
      answered can.0 can.1 can.2 (subst (λ (each : Fault). IsAt (can.0 ∷ []) Free (region_of c each)) (sym is)
      (subst (λ (one : NetId). IsAt (one ∷ []) Free (region_of c (Pulse net cycle))) acts (pulse_at c net cycle)))
