-- Regions that are asked of at once, and what that tells of each of their nets.
use Rattle.std.proofs.Common.{◌≡◌, ◌≢◌, inl, inr, ℕ, zero, suc, Bool, ◌<◌, ◌≤◌, ◌+◌, ◌-◌, true, List, [], ◌∷◌, length, refl, take, drop, ap, sym, subst, ◌∙◌, arith, length-take, length-drop, get_or-take, get_or-drop}
use Rattle.std.specs.Prelude.{All}
use Rattle.std.proofs.lemmas.List.{get_or_default}
use Rattle.circuit.specs.Circuit.{Circuit}
use Rattle.circuit.specs.Order.{net_at}
use Rattle.circuit.specs.declared.parts.NetId.{NetId}
use Rattle.coverage_claim.specs.Claim.{Claim}
use Rattle.coverage_claim.specs.Region.{Region, may_show}
use Rattle.coverage_claim.specs.declared.parts.Site.{Site}
use Rattle.coverage_claim.specs.declared.parts.Site.TheVariants.{Free}
use Rattle.claim_search.specs.Answer.{IsAnswer, IsProvedWithSome, is_early, is_of_parts}
use Rattle.claim_search.specs.Question.{IsPosed, with_region}
use Rattle.claim_search.specs.Sites.{IsAt, LiesWithin}
use Rattle.claim_search.specs.declared.answer.Answer.{Answer}
use Rattle.claim_search.specs.declared.answer.Answer.TheVariants.{Alarmed, Early, NoRuns, Open}
use Rattle.claim_search.specs.declared.question.Posed.{Posed}
use Rattle.claim_search.proofs.Marking.{in_or_out}
use Rattle.claim_search.proofs.Regions.{free_elsewhere, free_in, free_is_at, free_there, never_less, none_less, one_less, posed_so, proved_less}

-- ---- a part of a list

pub part_length : (nets : List NetId) (start end : ℕ) → start ≤ end → end ≤ length nets → length (take (end - start) (drop start nets)) ≡ end - start
part_length nets start end le within = simp (length-take, length-drop) (omega arith)

pub part_at : (nets : List NetId) (start end i : ℕ) → start ≤ i → i < end → net_at (take (end - start) (drop start nets)) (i - start) ≡ net_at nets i
part_at nets start end i le lt =
    let few : i - start < end - start = omega arith in
    let same : net_at (take (end - start) (drop start nets)) (i - start) ≡ net_at nets (start + (i - start)) = rw (get_or-take, get_or-drop) in
    let it : start + (i - start) ≡ i = omega arith in
    same ∙ ap (net_at nets) it

-- ---- answers

-- an answer to more is one to less
pub answer_less : (claim : Claim) (nets : List NetId) (k : ℕ) → k < length nets → (site : Site) → IsAt (net_at nets k ∷ []) site claim.region → (answer : Answer) → is_of_parts answer ≡ true
    → IsAnswer (with_region claim (free_in nets)) answer → IsAnswer claim answer
answer_less claim nets k lt site is_at Alarmed passes both =
    (proved_less claim (free_in nets) (one_less nets k lt site claim.region is_at) both.0, never_less claim (free_in nets) (one_less nets k lt site claim.region is_at) both.1)
answer_less claim nets k lt site is_at NoRuns passes none = none_less claim (free_in nets) (one_less nets k lt site claim.region is_at) none
answer_less claim nets k lt site is_at Early passes both = absurd (cc)
answer_less claim nets k lt site is_at Open passes never = absurd (cc)

-- WHAT HOLDS OF ALL OF THEM AT ONCE holds of each
pub of_each : (c : Circuit) (p : Posed) (nets : List NetId) (answer : Answer) → is_of_parts answer ≡ true
    → ((claim : Claim) → IsPosed c p claim → IsAt nets Free claim.region → IsAnswer claim answer)
    → (claim : Claim) → IsPosed c p claim → (k : ℕ) → k < length nets → IsAt (net_at nets k ∷ []) Free claim.region → IsAnswer claim answer
of_each c p nets answer passes whole claim posed k lt is_at =
    answer_less claim nets k lt Free is_at answer passes (whole (with_region claim (free_in nets)) (posed_so c p claim (free_in nets) posed) (free_is_at nets))

-- and of a part of them
pub of_part : (c : Circuit) (p : Posed) (nets : List NetId) (start end : ℕ) (answer : Answer) → end ≤ length nets → is_of_parts answer ≡ true
    → ((claim : Claim) → IsPosed c p claim → IsAt (take (end - start) (drop start nets)) Free claim.region → IsAnswer claim answer)
    → (claim : Claim) → IsPosed c p claim → (i : ℕ) → start ≤ i → i < end → IsAt (net_at nets i ∷ []) Free claim.region → IsAnswer claim answer
of_part c p nets start end answer within passes whole claim posed i le lt is_at =
    let few = part_length nets start end (omega (arith, le, lt)) within in
    of_each c p (take (end - start) (drop start nets)) answer passes whole claim posed (i - start) (omega (arith, few, le, lt))
    (subst (λ (net : NetId). IsAt (net ∷ []) Free claim.region) (sym (part_at nets start end i le lt)) is_at)

-- ---- a part of which the claim is proved

-- where nothing happens elsewhere than at some nets, it lies within them
pub lies_at : (nets : List NetId) (start end : ℕ) → start ≤ end → end ≤ length nets → (region : Region) → IsAt (take (end - start) (drop start nets)) Free region
    → LiesWithin nets start end region
lies_at nets start end order within region is_at n out = is_at.elsewhere n (λ k d lt.
    let few = part_length nets start end order within in
    let first : start ≤ start + k = omega arith in
    let last : start + k < end = omega (arith, lt, few, order) in
    let place : k ≡ start + k - start = omega arith in
    subst (λ (net : NetId). net.0 ≢ n)
    (sym (get_or_default (take (end - start) (drop start nets)) k d (record { 0 = 0 }) lt ∙ ap (net_at (take (end - start) (drop start nets))) place ∙ part_at nets start end (start + k) first last))
    (out (start + k) first last))

-- and so within more of them
pub lies_in_more : (nets : List NetId) (start end first last : ℕ) (region : Region) → first ≤ start → end ≤ last → LiesWithin nets start end region → LiesWithin nets first last region
lies_in_more nets start end first last region le ge lies n out = lies n (λ i from to. out i (omega (arith, le, from)) (omega (arith, ge, to)))

abbrev part_of : List NetId → (start end : ℕ) → List NetId
part_of nets start end = take (end - start) (drop start nets)

-- WHERE THE CLAIM IS PROVED with all of them free, it is with whatever lies within them
pub early_proved : (c : Circuit) (p : Posed) (nets : List NetId) (start end : ℕ) → end ≤ length nets
    → ((claim : Claim) → IsPosed c p claim → IsAt (take (end - start) (drop start nets)) Free claim.region → IsAnswer claim Early)
    → (claim : Claim) → IsPosed c p claim → LiesWithin nets start end claim.region → IsProvedWithSome claim
early_proved c p nets start end within whole claim posed lies =
    let region = free_in (part_of nets start end) in
    proved_less claim region less (whole (with_region claim region) (posed_so c p claim region posed) (free_is_at (part_of nets start end))).0
  where
    less : (n : ℕ) (own shown : Bool) → may_show (claim.region n) own shown ≡ true → may_show (free_in (part_of nets start end) n) own shown ≡ true
    less n own shown may = elim (in_or_out (part_of nets start end) n) as (λ _. may_show (free_in (part_of nets start end) n) own shown ≡ true) [
      | inl found ↦ ap (λ (each : Site). may_show each own shown) (ap (free_in (part_of nets start end)) (sym found.2) ∙ free_there (part_of nets start end) found.0 found.1)
      | inr out ↦ (ap (λ (each : Site). may_show each own shown) (free_elsewhere (part_of nets start end) n out ∙ sym (lies n (λ i le lt.
          let few = part_length nets start end (omega (arith, le, lt)) within in
          subst (λ (net : NetId). net.0 ≢ n) (part_at nets start end i le lt) (out (i - start) (record { 0 = 0 }) (omega (arith, few, le, lt)))))) ∙ may)
    ]

pub early_is : (answer : Answer) → is_early answer ≡ true → answer ≡ Early
early_is Early e = refl
early_is Alarmed e = absurd (cc)
early_is NoRuns e = absurd (cc)
early_is Open e = absurd (cc)

-- ---- a part of one net

one_part : (nets : List NetId) (start : ℕ) → start < length nets → take 1 (drop start nets) ≡ net_at nets start ∷ []
one_part [] start lt = absurd (omega (arith, lt))
one_part (net ∷ []) zero lt = refl
one_part (net ∷ other ∷ nets) zero lt = refl
one_part (net ∷ nets) (suc start) lt = one_part nets start (omega (arith, lt))

pub part_of_one : (nets : List NetId) (start end i : ℕ) (region : Region) → start + 1 ≡ end → end ≤ length nets → start ≤ i → i < end
    → IsAt (net_at nets i ∷ []) Free region → IsAt (take (end - start) (drop start nets)) Free region
part_of_one nets start end i region one within le lt is_at =
    let count : 1 ≡ end - start = omega (arith, one) in
    let place : i ≡ start = omega (arith, one, le, lt) in
    let inside : start < length nets = omega (arith, one, within) in
    subst (λ (some : List NetId). IsAt some Free region) (ap (λ n. net_at nets n ∷ []) place ∙ sym (one_part nets start inside) ∙ ap (λ n. take n (drop start nets)) count) is_at
