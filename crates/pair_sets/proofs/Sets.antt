-- The bits of a set of pairs.
use Rattle.std.proofs.Common.{◌≡◌, ◌+◌, ◌*◌, Bool, true, false, not, ◌&&◌, ◌||◌, inl, inr, refl, sym, ◌∙◌}
use Rattle.std.specs.Prelude.{if◌then◌else◌, ◌↔◌}
use Rattle.fm_base.specs.Planes.{bit}
use Rattle.fm_base.proofs.Bits.{one_if}
use Rattle.fm_base.proofs.Tests.{and_both, both_false, both_true, not_false, not_true, or_cases, or_false, or_second}
use Rattle.coverage_claim.specs.Region.{may_show}
use Rattle.coverage_claim.specs.Stretch.{Pairs}
use Rattle.coverage_claim.specs.declared.parts.Site.{Site}
use Rattle.pair_sets.specs.Pairs.{driving, place_of}

-- a number of four bits has these
pub bit_of_four : (z g f o : Bool) (a b : Bool) → bit (one_if z + 2 * one_if g + 4 * one_if f + 8 * one_if o) (place_of a b) ≡ (if b then (if a then o else f) else if a then g else z)
bit_of_four true true true true true true = refl
bit_of_four true true true true true false = refl
bit_of_four true true true true false true = refl
bit_of_four true true true true false false = refl
bit_of_four true true true false true true = refl
bit_of_four true true true false true false = refl
bit_of_four true true true false false true = refl
bit_of_four true true true false false false = refl
bit_of_four true true false true true true = refl
bit_of_four true true false true true false = refl
bit_of_four true true false true false true = refl
bit_of_four true true false true false false = refl
bit_of_four true true false false true true = refl
bit_of_four true true false false true false = refl
bit_of_four true true false false false true = refl
bit_of_four true true false false false false = refl
bit_of_four true false true true true true = refl
bit_of_four true false true true true false = refl
bit_of_four true false true true false true = refl
bit_of_four true false true true false false = refl
bit_of_four true false true false true true = refl
bit_of_four true false true false true false = refl
bit_of_four true false true false false true = refl
bit_of_four true false true false false false = refl
bit_of_four true false false true true true = refl
bit_of_four true false false true true false = refl
bit_of_four true false false true false true = refl
bit_of_four true false false true false false = refl
bit_of_four true false false false true true = refl
bit_of_four true false false false true false = refl
bit_of_four true false false false false true = refl
bit_of_four true false false false false false = refl
bit_of_four false true true true true true = refl
bit_of_four false true true true true false = refl
bit_of_four false true true true false true = refl
bit_of_four false true true true false false = refl
bit_of_four false true true false true true = refl
bit_of_four false true true false true false = refl
bit_of_four false true true false false true = refl
bit_of_four false true true false false false = refl
bit_of_four false true false true true true = refl
bit_of_four false true false true true false = refl
bit_of_four false true false true false true = refl
bit_of_four false true false true false false = refl
bit_of_four false true false false true true = refl
bit_of_four false true false false true false = refl
bit_of_four false true false false false true = refl
bit_of_four false true false false false false = refl
bit_of_four false false true true true true = refl
bit_of_four false false true true true false = refl
bit_of_four false false true true false true = refl
bit_of_four false false true true false false = refl
bit_of_four false false true false true true = refl
bit_of_four false false true false true false = refl
bit_of_four false false true false false true = refl
bit_of_four false false true false false false = refl
bit_of_four false false false true true true = refl
bit_of_four false false false true true false = refl
bit_of_four false false false true false true = refl
bit_of_four false false false true false false = refl
bit_of_four false false false false true true = refl
bit_of_four false false false false true false = refl
bit_of_four false false false false false true = refl
bit_of_four false false false false false false = refl

-- a pair that a driver may give is one for which the net may show some value
pub driving_says : (site : Site) (pairs : Pairs) (golden own : Bool) → driving site pairs golden own ≡ true
    → (value : Bool) × (pairs golden value ≡ true) × (may_show site own value ≡ true)
driving_says site pairs golden own e = elim (or_cases (pairs golden false && may_show site own false) (pairs golden true && may_show site own true) e)
    as (λ _. (value : Bool) × (pairs golden value ≡ true) × (may_show site own value ≡ true)) [
      | inl zero ↦ (let parts = and_both (pairs golden false) (may_show site own false) zero in (false, parts.0, parts.1))
      | inr one ↦ (let parts = and_both (pairs golden true) (may_show site own true) one in (true, parts.0, parts.1))
    ]

pub driving_from : (site : Site) (pairs : Pairs) (golden own value : Bool) → pairs golden value ≡ true → may_show site own value ≡ true → driving site pairs golden own ≡ true
driving_from site pairs golden own false has may = rw (both_true (pairs golden false) (may_show site own false) has may) refl
driving_from site pairs golden own true has may =
    or_second (pairs golden false && may_show site own false) (pairs golden true && may_show site own true) (both_true (pairs golden true) (may_show site own true) has may)

-- none of four pairs
pub none_of_four : (pairs : Pairs) (some : Bool) → some ≡ (pairs false false || pairs true false || pairs false true || pairs true true)
    → (not some ≡ true) ↔ ((g f : Bool) → pairs g f ≡ false)
none_of_four pairs some is = (λ e. none (sym is ∙ not_true some e), λ each. not_false some (is ∙ all each))
  where
    none : (pairs false false || pairs true false || pairs false true || pairs true true) ≡ false → (g f : Bool) → pairs g f ≡ false
    none e = (
        let last = or_false (pairs false false || pairs true false || pairs false true) (pairs true true) e in
        let third = or_false (pairs false false || pairs true false) (pairs false true) last.0 in
        let two = or_false (pairs false false) (pairs true false) third.0 in
        λ g f. at g f two.0 two.1 third.1 last.1)
      where
        at : (g f : Bool) → pairs false false ≡ false → pairs true false ≡ false → pairs false true ≡ false → pairs true true ≡ false → pairs g f ≡ false
        at false false p q r s = p
        at true false p q r s = q
        at false true p q r s = r
        at true true p q r s = s

    all : ((g f : Bool) → pairs g f ≡ false) → (pairs false false || pairs true false || pairs false true || pairs true true) ≡ false
    all each = both_false _ _ (both_false _ _ (both_false _ _ (each false false) (each true false)) (each false true)) (each true true)

-- each pair of a set is in another one, where none is lost
pub inside_if : (pairs others : Pairs) (some : Bool)
    → some ≡ ((pairs false false && not (others false false)) || (pairs true false && not (others true false)) || (pairs false true && not (others false true)) || (pairs true true && not (others true true)))
    → (not some ≡ true) ↔ ((g f : Bool) → pairs g f ≡ true → others g f ≡ true)
inside_if pairs others some is =
    let none = none_of_four (λ g f. pairs g f && not (others g f)) some is in
    (λ e g f has_it. stays (pairs g f) (others g f) (none.0 e g f) has_it, λ each. none.1 (λ g f. kept (pairs g f) (others g f) (each g f)))
  where
    stays : (x y : Bool) → (x && not y) ≡ false → x ≡ true → y ≡ true
    stays true true e h = refl
    stays true false e h = absurd (cc)
    stays false y e h = absurd (cc)

    kept : (x y : Bool) → (x ≡ true → y ≡ true) → (x && not y) ≡ false
    kept true true h = refl
    kept true false h = (let e : false ≡ true = h refl in absurd (cc))
    kept false y h = refl
