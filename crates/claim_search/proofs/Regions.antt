-- A region in which less may happen: what is proved of more is proved of it.
use Rattle.std.proofs.Common.{◌≡◌, ◌≢◌, ◌⊎◌, inl, inr, ℕ, zero, suc, ◌<◌, Bool, true, false, not, ◌&&◌, List, [], ◌∷◌, length, refl, ap, sym, subst, ◌∙◌, arith}
use Rattle.std.specs.Prelude.{◌==◌, All, if◌then◌else◌}
use Rattle.std.proofs.lemmas.Bool.{cases_eq, eq-eqb, ne_eqb}
use Rattle.std.proofs.lemmas.List.{get_or_default}
use Rattle.std.proofs.lemmas.List.Elements.{All-cons, All-head, All-tail}
use Rattle.fm_base.specs.Lists.{same_bit}
use Rattle.fm_base.proofs.Tests.{and_both, both_false, both_true, or_false}
use Rattle.circuit.specs.Circuit.{Circuit}
use Rattle.circuit.specs.Order.{net_at}
use Rattle.circuit.specs.declared.parts.Latch.{Latch}
use Rattle.circuit.specs.declared.parts.NetId.{NetId}
use Rattle.coverage_claim.specs.Claim.{Claim, IsNeverEarly, lead_in, leaves, window_of}
use Rattle.coverage_claim.specs.Region.{Region, may_show}
use Rattle.coverage_claim.specs.Stretch.{AreSo, Pairs, Values}
use Rattle.coverage_claim.specs.declared.parts.Site.{Site}
use Rattle.coverage_claim.specs.declared.parts.Site.TheVariants.{Free, Intact}
use Rattle.claim_search.specs.Answer.{IsProvedWithSome}
use Rattle.claim_search.specs.LeadIn.{HasNoRuns}
use Rattle.claim_search.specs.Question.{IsPosed, with_pairs, with_region}
use Rattle.claim_search.specs.Sites.{IsAt}
use Rattle.claim_search.specs.declared.question.Posed.{Posed}
use Rattle.claim_search.proofs.Marking.{in_or_out}

pub posed_so : (c : Circuit) (p : Posed) (claim : Claim) (region : Region) → IsPosed c p claim → IsPosed c p (with_region claim region)
posed_so c p claim region posed = record {
  circuit = posed.circuit;
  observed = posed.observed;
  alarms = posed.alarms;
  held = posed.held;
  from = posed.from;
  window = posed.window;
  ahead = posed.ahead;
}

less_and : (x y z : Bool) → (x ≡ true → y ≡ true) → (y && z) ≡ false → (x && z) ≡ false
less_and false y z less e = refl
less_and true y z less e = subst (λ v. (v && z) ≡ false) (less refl) e

module _ (claim : Claim) (more : Region) (less : (n : ℕ) (own shown : Bool) → may_show (claim.region n) own shown ≡ true → may_show (more n) own shown ≡ true) where
  windows_so : (pairs : Latch → Pairs) (golden faulty : Values) → AreSo (window_of (with_pairs claim pairs)) golden faulty → AreSo (window_of (with_pairs (with_region claim more) pairs)) golden faulty
  windows_so pairs golden faulty so = record {
    tables = λ frame k net le is driver. (let both = so.tables frame k net le is driver in (both.0, less net.0 _ _ both.1));
    latches = λ frame l latch lt at. (let both = so.latches frame l latch lt at in (both.0, less latch.to.0 _ _ both.1));
    inputs = λ frame k net le is driver. less net.0 _ _ (so.inputs frame k net le is driver);
    held = so.held;
    silent = so.silent;
    start = so.start;
  }

  lead_so : (golden faulty : Values) → AreSo (lead_in claim) golden faulty → AreSo (lead_in (with_region claim more)) golden faulty
  lead_so golden faulty so = record {
    tables = λ frame k net le is driver. (let both = so.tables frame k net le is driver in (both.0, less net.0 _ _ both.1));
    latches = λ frame l latch lt at. (let both = so.latches frame l latch lt at in (both.0, less latch.to.0 _ _ both.1));
    inputs = λ frame k net le is driver. less net.0 _ _ (so.inputs frame k net le is driver);
    held = so.held;
    silent = so.silent;
    start = λ l latch at. (
        let g = golden 0 latch.to.0 in
        let f = faulty 0 latch.to.0 in
        let both = and_both (same_bit g latch.start) (may_show (claim.region latch.to.0) latch.start f) (so.start l latch at) in
        both_true (same_bit g latch.start) (may_show (more latch.to.0) latch.start f) both.0 (less latch.to.0 latch.start f both.1));
  }

  pub leaves_less : (pairs : Latch → Pairs) (latch : Latch) (a b : Bool) → leaves (with_pairs (with_region claim more) pairs) latch a b ≡ false → leaves (with_pairs claim pairs) latch a b ≡ false
  leaves_less pairs latch a b e =
      let low : Bool = may_show (more latch.to.0) b false && not (pairs latch a false) in
      let high : Bool = may_show (more latch.to.0) b true && not (pairs latch a true) in
      let both = or_false low high e in
      both_false (may_show (claim.region latch.to.0) b false && not (pairs latch a false)) (may_show (claim.region latch.to.0) b true && not (pairs latch a true))
      (less_and (may_show (claim.region latch.to.0) b false) (may_show (more latch.to.0) b false) (not (pairs latch a false)) (less latch.to.0 b false) both.0)
      (less_and (may_show (claim.region latch.to.0) b true) (may_show (more latch.to.0) b true) (not (pairs latch a true)) (less latch.to.0 b true) both.1)

  pub proved_less : IsProvedWithSome (with_region claim more) → IsProvedWithSome claim
  proved_less proved =
      let pairs = proved.0 in
      let proof = proved.1 in (
        pairs,
        record {
          goes_on = λ golden faulty so. (
              let goes = proof.goes_on golden faulty (windows_so pairs golden faulty so) in
              record { same = goes.same; again = λ l latch at. leaves_less pairs latch _ _ (goes.again l latch at) });
          begins = λ golden faulty so. proof.begins golden faulty (lead_so golden faulty so);
        },
      )

  pub never_less : IsNeverEarly (with_region claim more) → IsNeverEarly claim
  never_less never golden faulty so = never golden faulty (lead_so golden faulty so)

  pub none_less : HasNoRuns (with_region claim more) → HasNoRuns claim
  none_less none golden faulty so = none golden faulty (lead_so golden faulty so)

-- ---- free nets

abbrev pub free_in : List NetId → Region
free_in [] n = Intact
free_in (net ∷ nets) n = if net.0 == n then Free else free_in nets n

pub free_there : (nets : List NetId) (k : ℕ) → k < length nets → free_in nets (net_at nets k).0 ≡ Free
free_there [] k lt = absurd (omega (arith, lt))
free_there (net ∷ nets) zero lt = rw (eq-eqb net.0 net.0 refl) refl
free_there (net ∷ nets) (suc k) lt = by_first (cases_eq net.0 (net_at nets k).0) (free_there nets k (omega (arith, lt)))
  where
    by_first : (net.0 ≡ (net_at nets k).0) ⊎ (net.0 ≢ (net_at nets k).0) → free_in nets (net_at nets k).0 ≡ Free → (if net.0 == (net_at nets k).0 then Free else free_in nets (net_at nets k).0) ≡ Free
    by_first (inl same) rest = rw (eq-eqb net.0 (net_at nets k).0 same) refl
    by_first (inr apart) rest = rw (ne_eqb net.0 (net_at nets k).0 apart) rest

pub free_elsewhere : (nets : List NetId) (n : ℕ) → All (λ net. net.0 ≢ n) nets → free_in nets n ≡ Intact
free_elsewhere [] n out = refl
free_elsewhere (net ∷ nets) n out = rw (ne_eqb net.0 n (All-head (λ (each : NetId). each.0 ≢ n) net nets out)) (free_elsewhere nets n (All-tail (λ (each : NetId). each.0 ≢ n) net nets out))

pub free_is_at : (nets : List NetId) → IsAt nets Free (free_in nets)
free_is_at nets = record {
  there = λ k d lt. ap (λ (net : NetId). free_in nets net.0) (sym (get_or_default nets k (record { 0 = 0 }) d lt)) ∙ free_there nets k lt;
  elsewhere = free_elsewhere nets;
}

-- whatever happens at one of some nets is less than if all were free
pub one_less : (nets : List NetId) (k : ℕ) → k < length nets → (site : Site) (region : Region) → IsAt (net_at nets k ∷ []) site region
    → (n : ℕ) (own shown : Bool) → may_show (region n) own shown ≡ true → may_show (free_in nets n) own shown ≡ true
one_less nets k lt site region is_at n own shown may = elim (in_or_out nets n) as (λ _. may_show (free_in nets n) own shown ≡ true) [
  | inl found ↦ ap (λ (each : Site). may_show each own shown) (ap (free_in nets) (sym found.2) ∙ free_there nets found.0 found.1)
  | inr out ↦ (
      let other : All (λ (net : NetId). net.0 ≢ n) (net_at nets k ∷ []) =
      All-cons (λ (net : NetId). net.0 ≢ n) (net_at nets k) [] (out k (record { 0 = 0 }) lt) (λ i d less. absurd (omega (arith, less))) in
      ap (λ (each : Site). may_show each own shown) (free_elsewhere nets n out ∙ sym (is_at.elsewhere n other)) ∙ may)
]
