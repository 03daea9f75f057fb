-- Sites that are written, and the regions that they make.
use Rattle.std.proofs.Common.{◌≡◌, ◌≢◌, ◌⊎◌, inl, inr, ℕ, suc, ◌<◌, List, [], ◌∷◌, ◌++◌, Some, length, take, ap, sym, subst, ◌∙◌, arith}
use Rattle.std.specs.Prelude.{All}
use Rattle.std.specs.List.{slice_get}
use Rattle.std.proofs.Math.Seq.{take-append_seam}
use Rattle.std.proofs.lemmas.Bool.{cases_eq}
use Rattle.std.proofs.lemmas.List.Elements.{All-cons}
use Rattle.std.proofs.lemmas.Option.{get_or_from_slice_get}
use Rattle.circuit.specs.Circuit.{Circuit}
use Rattle.circuit.specs.Order.{net_at}
use Rattle.circuit.specs.declared.parts.NetId.{NetId}
use Rattle.coverage_claim.specs.Claim.{Claim}
use Rattle.coverage_claim.specs.declared.parts.Site.{Site}
use Rattle.coverage_claim.specs.declared.parts.Site.TheVariants.{Intact}
use Rattle.claim_search.specs.Question.{IsAsked, IsPosed}
use Rattle.claim_search.specs.Sites.{IsAt, site_at}
use Rattle.claim_search.specs.declared.question.Question.{Question}

-- a number is that of one of some nets, or of none
pub in_or_out : (nets : List NetId) (n : ℕ) → ((k : ℕ) × (k < length nets) × ((net_at nets k).0 ≡ n)) ⊎ All (λ net. net.0 ≢ n) nets
in_or_out [] n = inr (λ i d lt. absurd (omega (arith, lt)))
in_or_out (net ∷ nets) n = elim (cases_eq net.0 n) as (λ _. ((k : ℕ) × (k < length (net ∷ nets)) × ((net_at (net ∷ nets) k).0 ≡ n)) ⊎ All (λ (each : NetId). each.0 ≢ n) (net ∷ nets)) [
  | inl same ↦ inl (0, omega arith, same)
  | inr apart ↦ elim (in_or_out nets n) as (λ _. ((k : ℕ) × (k < length (net ∷ nets)) × ((net_at (net ∷ nets) k).0 ≡ n)) ⊎ All (λ (each : NetId). each.0 ≢ n) (net ∷ nets)) [
    | inl found ↦ inl (suc found.0, omega (arith, found.1), found.2)
    | inr none ↦ inr (All-cons (λ (each : NetId). each.0 ≢ n) net nets apart none)
  ]
]

module _ (nets : List NetId) (site : Site) (old new : List Site) (there : All (λ net. site_at new net.0 ≡ site) nets)
    (elsewhere : (n : ℕ) → All (λ net. net.0 ≢ n) nets → site_at new n ≡ site_at old n) where
  -- THE CLAIM IS ASKED, where nothing was done before
  pub asked_of : (c : Circuit) (q : Question) (claim : Claim) → IsPosed c q.posed claim → IsAt nets site claim.region → q.sites.now ≡ new → ((n : ℕ) → site_at old n ≡ Intact) → IsAsked c q claim
  asked_of c q claim posed is_at same intact = record {
    posed = posed;
    sites = λ net one at. (
        let here : site_at new net ≡ one = get_or_from_slice_get new net one Intact (subst (λ (all : List Site). slice_get all net ≡ Some one) same at) in
        elim (in_or_out nets net) as (λ _. claim.region net ≡ one) [
          | inl found ↦ subst (λ n. claim.region n ≡ one) found.2
              (is_at.there found.0 (record { 0 = 0 }) found.1 ∙ sym (there found.0 (record { 0 = 0 }) found.1) ∙ ap (site_at new) found.2 ∙ here)
          | inr out ↦ is_at.elsewhere net out ∙ sym (intact net) ∙ sym (elsewhere net out) ∙ here
        ]);
  }

  -- and where they are taken back nothing is done again
  pub all_intact : site ≡ Intact → ((n : ℕ) → All (λ net. net.0 ≢ n) nets → site_at old n ≡ Intact) → (n : ℕ) → site_at new n ≡ Intact
  all_intact none before n = elim (in_or_out nets n) as (λ _. site_at new n ≡ Intact) [
    | inl found ↦ ap (site_at new) (sym found.2) ∙ there found.0 (record { 0 = 0 }) found.1 ∙ none
    | inr out ↦ elsewhere n out ∙ before n out
  ]

-- what was written is there, where as much was
pub written : {X : Type 0} (new rest : List X) (len : ℕ) → length new ≡ len → take len (new ++ rest) ≡ new
written {X} new rest len same = subst (λ n. take n (new ++ rest) ≡ new) same (take-append_seam new rest)
