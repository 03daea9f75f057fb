-- What one look at a window shows.
use Rattle.std.proofs.Common.{◌≡◌, inl, inr, ℕ, ◌+◌, ◌*◌, ◌≤◌, Bool, true, false, not, ◌&&◌, ◌||◌, List, Some, length, get_or, ap, ap₂, sym, subst, ◌∙◌, arith}
use Rattle.std.specs.Prelude.{All}
use Rattle.std.specs.List.{slice_get}
use Rattle.std.proofs.lemmas.Bool.{cases_Bool}
use Rattle.std.proofs.lemmas.List.Sums.{sum_by-le}
use Rattle.fm_base.proofs.Tests.{both_true, or_second}
use Rattle.alarm_points.specs.PointsFile.{observed}
use Rattle.circuit.specs.Circuit.{Circuit}
use Rattle.circuit.specs.Sound.{IsNetlist}
use Rattle.circuit.specs.declared.parts.Latch.{Latch}
use Rattle.coverage_claim.specs.Claim.{Claim, leaves, unequal, window_of}
use Rattle.coverage_claim.specs.Largest.{IsProvedSimply, IsRefuted}
use Rattle.coverage_claim.specs.Region.{may_show}
use Rattle.coverage_claim.specs.Stretch.{AreSo, Values}
use Rattle.pair_sets.specs.Choice.{set_at}
use Rattle.pair_sets.specs.Pairs.{has}
use Rattle.pair_sets.specs.declared.pairs.PairSet.{PairSet}
use Rattle.region_search.specs.Window.{IsForced, leaves_from}
use Rattle.region_search.specs.Work.{count_if, pair_count, pairs_left}
use Rattle.claim_search.specs.Question.{with_pairs}
use Rattle.claim_search.specs.Window.{Allows, WindowsGoOn, starts_of}
use Rattle.claim_search.proofs.Starting.{refuted_less, starts_are}

-- a latch has at most four pairs
pub at_most_four : (starts : List PairSet) → pairs_left starts ≤ 4 * length starts
at_most_four starts =
    let all = sum_by-le pair_count 4 starts (λ i d lt. four (has (get_or starts i d) false false) (has (get_or starts i d) true false) (has (get_or starts i d) false true) (has (get_or starts i d) true true)) in
    omega (arith, all)
  where
    one : (b : Bool) → count_if b ≤ 1
    one true = omega arith
    one false = omega arith

    four : (a b c d : Bool) → count_if a + count_if b + count_if c + count_if d ≤ 4
    four a b c d = let p = one a in let q = one b in let r = one c in let s = one d in omega (arith, p, q, r, s)

module _ (c : Circuit) (claim : Claim) (sound : IsNetlist c) (own : claim.circuit ≡ c) where
  at_own : (l : ℕ) (latch : Latch) → slice_get claim.circuit.latches l ≡ Some latch → slice_get c.latches l ≡ Some latch
  at_own l latch at = subst (λ (each : Circuit). slice_get each.latches l ≡ Some latch) own at

  -- WHERE NO PAIR LEADS AWAY each window goes on
  pub windows_go_on : (starts : List PairSet)
      → ((golden faulty : Values) → AreSo (window_of (with_pairs claim (starts_of c starts))) golden faulty → All (λ net. golden 0 net.0 ≡ faulty 0 net.0) (observed claim.points))
      → ((golden faulty : Values) → AreSo (window_of (with_pairs claim (starts_of c starts))) golden faulty → (l : ℕ) (latch : Latch) → slice_get c.latches l ≡ Some latch
      → leaves_from (claim.region latch.to.0) (has (set_at starts l)) (golden 0 latch.from.0) (faulty 0 latch.from.0) ≡ false)
      → WindowsGoOn (with_pairs claim (starts_of c starts))
  windows_go_on starts same again golden faulty so = record {
    same = same golden faulty so;
    again = λ l latch at. (
        let a = golden 0 latch.from.0 in
        let b = faulty 0 latch.from.0 in
        let site = claim.region latch.to.0 in
        let there = at_own l latch at in
        ap₂ (λ (x y : Bool). (may_show site b false && not x) || (may_show site b true && not y)) (starts_are c starts l latch sound there a false) (starts_are c starts l latch sound there a true)
        ∙ again golden faulty so l latch there);
  }

  module _ (old : List PairSet) (allows : Allows claim old) (proof : IsProvedSimply claim) where
    fewer : (l : ℕ) (latch : Latch) → slice_get claim.circuit.latches l ≡ Some latch → (a b : Bool) → starts_of c old latch a b ≡ true → claim.apart latch a b ≡ true
    fewer l latch at a b e = allows l latch at a b (sym (starts_are c old l latch sound (at_own l latch at) a b) ∙ e)

    -- WHAT IS PROVED SIMPLY shows no difference at once, with fewer starts
    pub none_differs : All (λ net. (a b : Bool) → unequal a b ≡ true → IsRefuted (window_of (with_pairs claim (starts_of c old))) 0 net.0 a b) (observed claim.points)
    none_differs i d lt a b e = refuted_less claim (starts_of c old) fewer 0 _ a b (proof.same i d lt a b e)

    -- a pair that isn't allowed is one to which a latch may not come
    leads : (latch : Latch) (x value y : Bool) → may_show (claim.region latch.to.0) value y ≡ true → claim.apart latch x y ≡ false → leaves claim latch x value ≡ true
    leads latch x value false may out = or_first (may_show (claim.region latch.to.0) value false && not (claim.apart latch x false)) (may_show (claim.region latch.to.0) value true && not (claim.apart latch x true))
        (both_true (may_show (claim.region latch.to.0) value false) (not (claim.apart latch x false)) may (ap not out))
      where
        or_first : (a b : Bool) → a ≡ true → (a || b) ≡ true
        or_first true b e = e
        or_first false b e = absurd (cc)
    leads latch x value true may out = or_second (may_show (claim.region latch.to.0) value false && not (claim.apart latch x false)) (may_show (claim.region latch.to.0) value true && not (claim.apart latch x true))
        (both_true (may_show (claim.region latch.to.0) value true) (not (claim.apart latch x true)) may (ap not out))

    -- AND ALLOWS the pairs that its latches are forced to have
    pub must_grow : (new : List PairSet) → ((l : ℕ) (latch : Latch) → slice_get c.latches l ≡ Some latch → (x y : Bool) → has (set_at new l) x y ≡ true
        → IsForced (window_of (with_pairs claim (starts_of c old))) latch (has (set_at old l)) x y) → Allows claim new
    must_grow new forced l latch at x y e = elim (forced l latch (at_own l latch at) x y e) as (λ _. claim.apart latch x y ≡ true) [
      | inl was ↦ allows l latch at x y was
      | inr must ↦ elim (cases_Bool (claim.apart latch x y)) as (λ _. claim.apart latch x y ≡ true) [
        | inl in_it ↦ in_it
        | inr out ↦ absurd (must.2 (refuted_less claim (starts_of c old) fewer 0 latch.from.0 x must.0 (proof.again l latch at x must.0 (leads latch x must.0 y must.1 out))))
      ]
    ]
