-- Counts of pairs and of places that wait.
use Rattle.std.proofs.Common.{◌≡◌, inl, inr, ℕ, zero, suc, ◌+◌, ◌*◌, ◌<◌, ◌≤◌, Bool, true, false, not, ◌&&◌, ◌||◌, List, length, get_or, set, refl, ap, sym, subst, ◌∙◌, arith}
use Rattle.std.specs.Prelude.{◌==◌, if◌then◌else◌}
use Rattle.std.proofs.Math.Nat.{mul-le-mul_right, suc-mul}
use Rattle.std.proofs.lemmas.Bool.{cases_eq, eq-eqb, ne_eqb}
use Rattle.std.proofs.lemmas.List.{get_or_default}
use Rattle.std.proofs.lemmas.List.Sums.{sum_by-set}
use Rattle.fm_base.proofs.Tests.{not_not, or_cases}
use Rattle.pair_sets.specs.Choice.{set_at}
use Rattle.pair_sets.specs.Pairs.{has, loses_some}
use Rattle.pair_sets.specs.declared.pairs.PairSet.{PairSet}
use Rattle.region_search.specs.Work.{count_if, pair_count, pairs_left, passing_below}

-- ---- pairs

both_at_most : (x y : Bool) → count_if (x && y) ≤ count_if x
both_at_most true true = omega arith
both_at_most true false = omega arith
both_at_most false y = omega arith

one_less : (x y : Bool) → (x && not y) ≡ true → count_if (x && y) + 1 ≡ count_if x
one_less true true e = absurd (cc)
one_less true false e = refl
one_less false y e = absurd (cc)

abbrev pub IsBoth : PairSet → PairSet → PairSet → Type 0
IsBoth old to left = (a b : Bool) → has left a b ≡ (has old a b && has to a b)

abbrev count_of : PairSet → PairSet → Bool → Bool → ℕ
count_of old to a b = count_if (has old a b && has to a b)

pub count_both : (old to left : PairSet) → IsBoth old to left → pair_count left ≡ count_of old to false false + count_of old to true false + count_of old to false true + count_of old to true true
count_both old to left is = rw (is false false, is true false, is false true, is true true) refl

pub count_less : (old to left : PairSet) → IsBoth old to left → loses_some old to ≡ true → pair_count left + 1 ≤ pair_count old
count_less old to left is e =
    let same = count_both old to left is in
    let p = both_at_most (has old false false) (has to false false) in
    let q = both_at_most (has old true false) (has to true false) in
    let r = both_at_most (has old false true) (has to false true) in
    let t = both_at_most (has old true true) (has to true true) in
    let zeros : Bool = has old false false && not (has to false false) in
    let golden : Bool = has old true false && not (has to true false) in
    let faulty : Bool = has old false true && not (has to false true) in
    let ones : Bool = has old true true && not (has to true true) in
    elim (or_cases (zeros || golden || faulty) ones e) as (λ _. pair_count left + 1 ≤ pair_count old) [
      | inr last ↦ (let less = one_less (has old true true) (has to true true) last in omega (arith, same, p, q, r, less))
      | inl three ↦ elim (or_cases (zeros || golden) faulty three) as (λ _. pair_count left + 1 ≤ pair_count old) [
        | inr third ↦ (let less = one_less (has old false true) (has to false true) third in omega (arith, same, p, q, t, less))
        | inl two ↦ elim (or_cases zeros golden two) as (λ _. pair_count left + 1 ≤ pair_count old) [
          | inr second ↦ (let less = one_less (has old true false) (has to true false) second in omega (arith, same, p, r, t, less))
          | inl first ↦ (let less = one_less (has old false false) (has to false false) first in omega (arith, same, q, r, t, less))
        ]
      ]
    ]

-- A PAIR GOES: there are fewer in all
pub fewer_pairs : (items : List PairSet) (at : ℕ) (to left : PairSet) → at < length items → IsBoth (set_at items at) to left → loses_some (set_at items at) to ≡ true
    → pairs_left (set items at left) + 1 ≤ pairs_left items
fewer_pairs items at to left lt is e =
    let sum = sum_by-set pair_count items at left (record { bits = 0 }) lt in
    let less = count_less (set_at items at) to left is e in
    omega (arith, sum, less)

-- ---- places that wait

pub at_most_all : (n : ℕ) (test : ℕ → Bool) → passing_below n test ≤ n
unfolding passing_below
at_most_all zero test = omega arith
at_most_all (suc n) test = let rest = at_most_all n test in let one = count_small (test n) in omega (arith, rest, one)
  where
    count_small : (b : Bool) → count_if b ≤ 1
    count_small true = omega arith
    count_small false = omega arith

same_below : (n : ℕ) (test other : ℕ → Bool) → ((p : ℕ) → p < n → other p ≡ test p) → passing_below n other ≡ passing_below n test
unfolding passing_below
same_below zero test other same = refl
same_below (suc n) test other same =
    let rest = same_below n test other (λ p lt. same p (omega (arith, lt))) in
    let last : count_if (other n) ≡ count_if (test n) = ap count_if (same n (omega arith)) in
    omega (arith, rest, last)

-- A PLACE IS TAKEN OUT: one fewer waits
pub one_fewer : (n : ℕ) (test other : ℕ → Bool) (place : ℕ) → place < n → test place ≡ true → ((p : ℕ) → other p ≡ (if p == place then false else test p))
    → passing_below n other + 1 ≡ passing_below n test
unfolding passing_below
one_fewer zero test other place lt has_it is = absurd (omega (arith, lt))
one_fewer (suc n) test other place lt has_it is = elim (cases_eq n place) as (λ _. passing_below n other + count_if (other n) + 1 ≡ passing_below n test + count_if (test n)) [
  | inl same ↦ (
      let rest = same_below n test other (λ p less. is p ∙ rw (ne_eqb p place (λ e. absurd (omega (arith, e, less, same)))) refl) in
      let out : other n ≡ false = is n ∙ rw (eq-eqb n place same) refl in
      let gone : count_if (other n) ≡ 0 = ap count_if out in
      let was : count_if (test n) ≡ 1 = ap count_if (ap test same ∙ has_it) in
      omega (arith, rest, gone, was))
  | inr apart ↦ (
      let rest = one_fewer n test other place (omega (arith, lt, apart)) has_it is in
      let stays : other n ≡ test n = is n ∙ rw (ne_eqb n place apart) refl in
      let last : count_if (other n) ≡ count_if (test n) = ap count_if stays in
      omega (arith, rest, last))
]

-- ---- both

-- where a place is taken out and no pair goes, less is left to do; and where a pair goes too, whatever wakes
pub less_work : (pairs fewer bound waits more : ℕ) → fewer + 1 ≤ pairs → more ≤ bound → fewer * (bound + 1) + more < pairs * (bound + 1) + waits
less_work pairs fewer bound waits more less few =
    let grows : (fewer + 1) * (bound + 1) ≤ pairs * (bound + 1) = mul-le-mul_right (bound + 1) less in
    let next : (fewer + 1) * (bound + 1) ≡ fewer * (bound + 1) + (bound + 1) = ap (λ k. k * (bound + 1)) (omega arith) ∙ suc-mul fewer (bound + 1) in
    omega (arith, grows, next, few)

-- what was read at a place is what stands there
pub read_is : (items : List PairSet) (at : ℕ) (old : PairSet) → at < length items → old ≡ get_or items at old → old ≡ set_at items at
read_is items at old lt is = is ∙ get_or_default items at old (record { bits = 0 }) lt

-- A CUT THAT ISN'T FOR NOTHING leaves fewer pairs
pub cut_goes : (items : List PairSet) (at : ℕ) (to left old : PairSet) → at < length items → old ≡ get_or items at old → IsBoth old to left
    → (inside : Bool) → inside ≡ not (loses_some old to) → inside ≡ false → pairs_left (set items at left) + 1 ≤ pairs_left items
cut_goes items at to left old lt read is inside said fails =
    let here : old ≡ set_at items at = read_is items at old lt read in
    fewer_pairs items at to left lt (subst (λ p. IsBoth p to left) here is)
    (subst (λ p. loses_some p to ≡ true) here (not_not (loses_some old to) (sym said ∙ fails)))
