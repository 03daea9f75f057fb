-- What a latch takes away, and that it takes nothing more then.
use Rattle.std.proofs.Common.{◌≡◌, inl, inr, ℕ, suc, ◌+◌, ◌<◌, Bool, true, false, ◌&&◌, ◌||◌, refl, ap, sym, ◌∙◌, arith}
use Rattle.std.specs.Prelude.{Some}
use Rattle.std.specs.List.{slice_get}
use Rattle.std.proofs.lemmas.Bool.{ne_eqb}
use Rattle.fm_base.proofs.Tests.{and_both, both_true, clash, or_cases, or_second}
use Rattle.circuit.specs.declared.parts.Latch.{Latch}
use Rattle.coverage_claim.specs.Region.{may_show}
use Rattle.coverage_claim.specs.Rules.{AgreeOver, Sets, by_latch, by_next, only}
use Rattle.coverage_claim.specs.Stretch.{Pairs, Stretch}
use Rattle.coverage_claim.specs.declared.parts.Site.{Site}
use Rattle.pair_sets.specs.Pairs.{driving, shown}
use Rattle.region_search.proofs.Narrowing.{cut_other, cut_there}
use Rattle.region_search.specs.Going.{MayAllGo}
use Rattle.region_search.specs.Settled.{IsLatchSettled}

or_first : (a b : Bool) → a ≡ true → (a || b) ≡ true
or_first true b e = refl
or_first false b e = absurd (cc)

-- a pair is driven where one that the net shows comes of it, and the other way
pub drives : (site : Site) (pairs : Pairs) (a b y : Bool) → pairs a y ≡ true → may_show site b y ≡ true → driving site pairs a b ≡ true
drives site pairs a b false has may = or_first (pairs a false && may_show site b false) (pairs a true && may_show site b true) (both_true (pairs a false) (may_show site b false) has may)
drives site pairs a b true has may = or_second (pairs a false && may_show site b false) (pairs a true && may_show site b true) (both_true (pairs a true) (may_show site b true) has may)

pub driven_by : (site : Site) (pairs : Pairs) (a b : Bool) → driving site pairs a b ≡ true → (y : Bool) × (pairs a y ≡ true) × (may_show site b y ≡ true)
driven_by site pairs a b e =
    elim (or_cases (pairs a false && may_show site b false) (pairs a true && may_show site b true) e) as (λ _. (y : Bool) × (pairs a y ≡ true) × (may_show site b y ≡ true)) [
      | inl first ↦ (let both = and_both (pairs a false) (may_show site b false) first in (false, both.0, both.1))
      | inr second ↦ (let both = and_both (pairs a true) (may_show site b true) second in (true, both.0, both.1))
    ]

pub shows : (site : Site) (pairs : Pairs) (x b y : Bool) → pairs x b ≡ true → may_show site b y ≡ true → shown site pairs x y ≡ true
shows site pairs x false y has may = or_first (pairs x false && may_show site false y) (pairs x true && may_show site true y) (both_true (pairs x false) (may_show site false y) has may)
shows site pairs x true y has may = or_second (pairs x false && may_show site false y) (pairs x true && may_show site true y) (both_true (pairs x true) (may_show site true y) has may)

pub shown_by : (site : Site) (pairs : Pairs) (x y : Bool) → shown site pairs x y ≡ true → (b : Bool) × (pairs x b ≡ true) × (may_show site b y ≡ true)
shown_by site pairs x y e =
    elim (or_cases (pairs x false && may_show site false y) (pairs x true && may_show site true y) e) as (λ _. (b : Bool) × (pairs x b ≡ true) × (may_show site b y ≡ true)) [
      | inl first ↦ (let both = and_both (pairs x false) (may_show site false y) first in (false, both.0, both.1))
      | inr second ↦ (let both = and_both (pairs x true) (may_show site true y) second in (true, both.0, both.1))
    ]

-- q: the sets before; half: without what the latch's own net doesn't let go on; left: and without what comes of no pair
-- to, from: the pairs of both nets when they were read
module _ (s : Stretch) (q half left : Sets) (frame : ℕ) (latch : Latch) (site : Site) (to from back on : Pairs) (region : s.region latch.to.0 ≡ site)
    (to_is : (a b : Bool) → to a b ≡ q (frame + 1) latch.to.0 a b) (back_is : (a b : Bool) → back a b ≡ driving site to a b)
    (first : (i n : ℕ) (a b : Bool) → half i n a b ≡ only q frame latch.from.0 back i n a b)
    (from_is : (a b : Bool) → from a b ≡ half frame latch.from.0 a b) (on_is : (a b : Bool) → on a b ≡ shown site from a b)
    (second : (i n : ℕ) (a b : Bool) → left i n a b ≡ only half (frame + 1) latch.to.0 on i n a b) where
  next_is : frame + 1 ≡ suc frame
  next_is = omega arith

  at_next : (r : Sets) (a b : Bool) → r (frame + 1) latch.to.0 a b ≡ r (suc frame) latch.to.0 a b
  at_next r a b = ap (λ i. r i latch.to.0 a b) next_is

  site_may : (b y : Bool) → may_show (s.region latch.to.0) b y ≡ may_show site b y
  site_may b y = ap (λ each. may_show each b y) region

  -- the latch's own net isn't changed by the first cut, nor the one that it reads by the second
  half_to : (a b : Bool) → half (frame + 1) latch.to.0 a b ≡ q (frame + 1) latch.to.0 a b
  half_to a b = cut_other q half frame latch.from.0 back first (frame + 1) latch.to.0 a b (rw (ne_eqb (frame + 1) frame (λ e. absurd (omega (arith, e)))) refl)

  left_from : (a b : Bool) → left frame latch.from.0 a b ≡ half frame latch.from.0 a b
  left_from a b = cut_other half left (frame + 1) latch.to.0 on second frame latch.from.0 a b (rw (ne_eqb frame (frame + 1) (λ e. absurd (omega (arith, e)))) refl)

  half_from : (a b : Bool) → half frame latch.from.0 a b ≡ (q frame latch.from.0 a b && back a b)
  half_from a b = cut_there q half frame latch.from.0 back first a b

  left_to : (a b : Bool) → left (frame + 1) latch.to.0 a b ≡ (half (frame + 1) latch.to.0 a b && on a b)
  left_to a b = cut_there half left (frame + 1) latch.to.0 on second a b

  -- a pair that goes on to one of the latch's own net is driven
  is_back : (a b x y : Bool) → AgreeOver s q frame latch a b x y → back a b ≡ true
  is_back a b x y agree =
      back_is a b ∙ drives site to a b y (to_is a y ∙ at_next q a y ∙ ap (λ g. q (suc frame) latch.to.0 g y) (sym agree.golden_is) ∙ agree.own) (sym (site_may b y) ∙ agree.faulty_may)

  pub may_first : (l : ℕ) → frame < s.last → slice_get s.circuit.latches l ≡ Some latch → MayAllGo s q frame latch.from.0 (q frame latch.from.0) back
  may_first l lt at a b had none = by_next l latch lt at refl (λ x y agree. clash (back a b) (is_back a b x y agree) none)

  pub may_second : (l : ℕ) → frame < s.last → slice_get s.circuit.latches l ≡ Some latch → MayAllGo s q (frame + 1) latch.to.0 (half (frame + 1) latch.to.0) on
  may_second l lt at x y had none = by_latch frame l latch next_is lt at refl (λ a b agree.
      (let there : from a b ≡ true = from_is a b ∙ half_from a b ∙ both_true (q frame latch.from.0 a b) (back a b) agree.read (is_back a b x y agree) in
      clash (on x y)
      (on_is x y ∙ shows site from x b y (ap (λ g. from g b) agree.golden_is ∙ there) (sym (site_may b y) ∙ agree.faulty_may))
      none))

  over : (a b y : Bool) → left frame latch.from.0 a b ≡ true → left (frame + 1) latch.to.0 a y ≡ true → may_show site b y ≡ true → AgreeOver s left frame latch a b a y
  over a b y read own may = record {
    read = read;
    own = sym (at_next left a y) ∙ own;
    golden_is = refl;
    faulty_may = site_may b y ∙ may;
  }

  -- AND THEN IT TAKES NOTHING AWAY
  pub latch_settled : IsLatchSettled s left frame latch
  latch_settled = record {
    read = λ a b e. (
        let there : half frame latch.from.0 a b ≡ true = sym (left_from a b) ∙ e in
        let both = and_both (q frame latch.from.0 a b) (back a b) (sym (half_from a b) ∙ there) in
        let goes = driven_by site to a b (sym (back_is a b) ∙ both.1) in
        let shows_it : on a goes.0 ≡ true = on_is a goes.0 ∙ shows site from a b goes.0 (from_is a b ∙ there) goes.2 in
        let own : left (frame + 1) latch.to.0 a goes.0 ≡ true =
        left_to a goes.0 ∙ both_true (half (frame + 1) latch.to.0 a goes.0) (on a goes.0) (half_to a goes.0 ∙ sym (to_is a goes.0) ∙ goes.1) shows_it in
        (a, goes.0, over a b goes.0 e own goes.2));
    next = λ x y e. (
        let own : left (frame + 1) latch.to.0 x y ≡ true = at_next left x y ∙ e in
        let both = and_both (half (frame + 1) latch.to.0 x y) (on x y) (sym (left_to x y) ∙ own) in
        let comes = shown_by site from x y (sym (on_is x y) ∙ both.1) in
        (x, comes.0, over x comes.0 y (left_from x comes.0 ∙ sym (from_is x comes.0) ∙ comes.1) own comes.2));
  }
