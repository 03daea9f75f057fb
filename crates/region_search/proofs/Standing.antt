-- Pairs of the first frame of a window that aren't refuted.
use Rattle.std.proofs.Common.{◌≡◌, ℕ, ◌≤◌, ◌<◌, Bool, true, false, not, ◌&&◌, ◌||◌, List, length, set, refl, ap, ap₂, sym, subst, ◌+◌, ◌∙◌, arith}
use Rattle.std.proofs.lemmas.List.Sums.{sum_by-set}
use Rattle.fm_base.proofs.Tests.{and_both, both_false, both_true, clash, false_of, not_not, or_false}
use Rattle.coverage_claim.specs.Claim.{unequal}
use Rattle.coverage_claim.specs.Region.{may_show}
use Rattle.coverage_claim.specs.Rules.{Sets, this_pair}
use Rattle.coverage_claim.specs.Stretch.{Pairs, Stretch}
use Rattle.coverage_claim.specs.declared.parts.Site.{Site}
use Rattle.pair_sets.specs.Choice.{set_at}
use Rattle.pair_sets.specs.Pairs.{has, loses_some, shown}
use Rattle.pair_sets.specs.declared.pairs.PairSet.{PairSet}
use Rattle.region_search.proofs.Counting.{count_less}
use Rattle.region_search.specs.Refute.{NoneHave}
use Rattle.region_search.specs.Settled.{HoldsAll}
use Rattle.region_search.specs.Window.{leaves_from}
use Rattle.region_search.specs.Work.{pair_count, pairs_left}

-- a pair that a set hasn't is that of no runs
pub not_there : (s : Stretch) (bounds left : Sets) (frame net : ℕ) (a b : Bool) → HoldsAll s bounds left → frame ≤ s.last → left frame net a b ≡ false → NoneHave s bounds frame net a b
not_there s bounds left frame net a b holds le gone golden faulty so lie first second =
    clash (left frame net a b) (subst (λ x. left frame net x b ≡ true) first (subst (λ y. left frame net (golden frame net) y ≡ true) second (holds golden faulty so lie frame net le))) gone

-- each of four pairs
pub of_four : (P : Bool → Bool → Type 0) → P false false → P true false → P false true → P true true → (a b : Bool) → P a b
of_four P zeros golden faulty ones false false = zeros
of_four P zeros golden faulty ones true false = golden
of_four P zeros golden faulty ones false true = faulty
of_four P zeros golden faulty ones true true = ones

-- values that aren't unequal are equal
pub equal_of : (a b : Bool) → (unequal a b ≡ true → ⊥) → a ≡ b
equal_of true true none = refl
equal_of true false none = absurd (none refl)
equal_of false true none = absurd (none refl)
equal_of false false none = refl

-- what is shown of one pair
pub pair_shown : (site : Site) (g f v : Bool) → shown site (this_pair g f) g v ≡ may_show site f v
pair_shown site true true v = refl
pair_shown site false true v = refl
pair_shown site true false v = or_none (may_show site false v)
  where
    or_none : (x : Bool) → (x || false) ≡ x
    or_none true = refl
    or_none false = refl
pair_shown site false false v = or_none (may_show site false v)
  where
    or_none : (x : Bool) → (x || false) ≡ x
    or_none true = refl
    or_none false = refl

-- the pairs that are shown of one, in other words
pub leaves_is : (site : Site) (starts : Pairs) (pair set : PairSet) (g f : Bool) → ((a b : Bool) → has pair a b ≡ this_pair g f a b) → ((a b : Bool) → has set a b ≡ shown site (has pair) a b)
    → ((has set g false && not (starts g false)) || (has set g true && not (starts g true))) ≡ leaves_from site starts g f
leaves_is site starts pair set g f is_pair is_shown =
    ap₂ (λ (x y : Bool). (x && not (starts g false)) || (y && not (starts g true))) (each false) (each true)
  where
    each : (v : Bool) → has set g v ≡ may_show site f v
    each v = is_shown g v ∙ ap₂ (λ (x y : Bool). (x && may_show site false v) || (y && may_show site true v)) (is_pair g false) (is_pair g true) ∙ pair_shown site g f v

-- ---- starts that grow

pub kept_or : (x y : Bool) → x ≡ true → (x || y) ≡ true
kept_or true y e = refl
kept_or false y e = absurd (cc)

module _ (site : Site) (start leaving next : Pairs) (a b : Bool) (grows : (x y : Bool) → next x y ≡ (start x y || shown site leaving x y)) where
  -- a pair whose own are all in doesn't lead away
  stays_in : ((v : Bool) → may_show site b v ≡ true → next a v ≡ true) → leaves_from site next a b ≡ false
  stays_in all = both_false (may_show site b false && not (next a false)) (may_show site b true && not (next a true)) (each false) (each true)
    where
      each : (v : Bool) → (may_show site b v && not (next a v)) ≡ false
      each v = false_of (may_show site b v && not (next a v)) (λ e.
          let parts = and_both (may_show site b v) (not (next a v)) e in
          let goes : next a v ≡ true = all v parts.0 in
          let out : not (next a v) ≡ false = ap not goes in
          clash (not (next a v)) parts.1 out)

  -- so it is with one that was added
  pub added_stays : leaving a b ≡ true → leaves_from site next a b ≡ false
  added_stays there = stays_in (λ v may. grows a v ∙ or_right (start a v) (shown site leaving a v) (shows b v there may))
    where
      or_right : (x y : Bool) → y ≡ true → (x || y) ≡ true
      or_right true y e = refl
      or_right false y e = e

      shows : (f v : Bool) → leaving a f ≡ true → may_show site f v ≡ true → shown site leaving a v ≡ true
      shows false v has_it may = kept_or (leaving a false && may_show site false v) (leaving a true && may_show site true v) (both_true (leaving a false) (may_show site false v) has_it may)
      shows true v has_it may = or_right (leaving a false && may_show site false v) (leaving a true && may_show site true v) (both_true (leaving a true) (may_show site true v) has_it may)

  -- and with one that didn't lead away before
  pub other_stays : leaves_from site start a b ≡ false → leaves_from site next a b ≡ false
  other_stays before = stays_in (λ v may. grows a v ∙ kept_or (start a v) (shown site leaving a v) (was v may))
    where
      had : (x y : Bool) → (x && not y) ≡ false → x ≡ true → y ≡ true
      had true true e f = refl
      had true false e f = absurd (cc)
      had false y e f = absurd (cc)

      was : (v : Bool) → may_show site b v ≡ true → start a v ≡ true
      was v may = of_each v (or_false (may_show site b false && not (start a false)) (may_show site b true && not (start a true)) before) may
        where
          of_each : (u : Bool) → ((may_show site b false && not (start a false)) ≡ false) × ((may_show site b true && not (start a true)) ≡ false) → may_show site b u ≡ true → start a u ≡ true
          of_each false both shows_it = had (may_show site b false) (start a false) both.0 shows_it
          of_each true both shows_it = had (may_show site b true) (start a true) both.1 shows_it

-- ---- where they don't grow, and where they do

same_bool : (x y : Bool) → (x ≡ true → y ≡ true) → (y ≡ true → x ≡ true) → x ≡ y
same_bool true y to back = sym (to refl)
same_bool false true to back = absurd (clash false (back refl) refl)
same_bool false false to back = refl

-- starts with the same pairs are left by the same
pub leaves_same : (site : Site) (start next : Pairs) (a b : Bool) → ((x y : Bool) → start x y ≡ true → next x y ≡ true) → ((x y : Bool) → next x y ≡ true → start x y ≡ true)
    → leaves_from site start a b ≡ leaves_from site next a b
leaves_same site start next a b grows back =
    ap₂ (λ (x y : Bool). (may_show site b false && not x) || (may_show site b true && not y)) (same_bool (start a false) (next a false) (grows a false) (back a false))
    (same_bool (start a true) (next a true) (grows a true) (back a true))

-- a set that isn't inside another one, of which it has all pairs, has more
pub more_pairs : (start grown : PairSet) (inside : Bool) → ((a b : Bool) → has start a b ≡ true → has grown a b ≡ true) → inside ≡ not (loses_some grown start) → inside ≡ false
    → pair_count start + 1 ≤ pair_count grown
more_pairs start grown inside grows said fails =
    count_less grown start start (λ a b. same_bool (has start a b) (has grown a b && has start a b) (λ e. both_true (has grown a b) (has start a b) (grows a b e) e)
    (λ e. (and_both (has grown a b) (has start a b) e).1)) (not_not (loses_some grown start) (sym said ∙ fails))

-- and so have all then
pub more_left : (items : List PairSet) (at : ℕ) (grown : PairSet) → at < length items → pair_count (set_at items at) + 1 ≤ pair_count grown
    → pairs_left items + 1 ≤ pairs_left (set items at grown)
more_left items at grown lt more = let sum = sum_by-set pair_count items at grown (record { bits = 0 }) lt in omega (arith, sum, more)
